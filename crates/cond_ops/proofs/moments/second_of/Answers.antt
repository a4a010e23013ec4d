use Rattle.std.proofs.Common.{true, false, ◌≡◌, ◌∙◌, ap, sym, rules, FitsSigned, w8, w16, w64}
use Rattle.std.proofs.lemmas.Int.{to_z-of_z}
use Rattle.jiff.specs.Words.{civil_seconds}
use Rattle.cond_ops.proofs.SecondFacts.{of_ok, second_is, no_second}
use Rattle.cond_ops.proofs.moments.second_of.Goals as goal

pub returns : goal.returns
returns c = λ year month day hour minute second has_day has_clock.
    let d = c.args.day in
    let t = c.args.clock in
    let y : FitsSigned w16 d.year = search rules in
    let mo : FitsSigned w8 d.month = search rules in
    let dd : FitsSigned w8 d.day = search rules in
    let h : FitsSigned w8 t.hour = search rules in
    let mi : FitsSigned w8 t.minute = search rules in
    let s : FitsSigned w8 t.second = search rules in
    let succeeds = simp to_z-of_z at c.new.ensures.succeeds in
    let civil = c.in_ok-civil.civil in
    let fields = of_ok c.new.result _ civil (simp to_z-of_z at c.new.ensures.value) c.in_ok-civil.ensures.value in
    let are = succeeds.0 (sym c.in_ok-civil.ensures.variant) in
    let z : FitsSigned w64 c.to_second.result = search rules in
    rw to_z-of_z
    (second_is d.year d.month d.day t.hour t.minute t.second year month day hour minute second has_day.0 has_day.1 has_day.2 has_clock.0 has_clock.1 has_clock.2
    are.0 are.1 civil fields.0 fields.1 c.to_second.result (c.to_second.ensures.value ∙ ap civil_seconds c.to_plain.ensures))

pub returns-in_err-civil : goal.returns-in_err-civil
returns-in_err-civil c = λ year month day hour minute second has_day has_clock.
    let d = c.args.day in
    let t = c.args.clock in
    let y : FitsSigned w16 d.year = search rules in
    let mo : FitsSigned w8 d.month = search rules in
    let dd : FitsSigned w8 d.day = search rules in
    let h : FitsSigned w8 t.hour = search rules in
    let mi : FitsSigned w8 t.minute = search rules in
    let s : FitsSigned w8 t.second = search rules in
    let succeeds = simp to_z-of_z at c.new.ensures.succeeds in
    rw c.from_residual.ensures
    (no_second d.year d.month d.day t.hour t.minute t.second year month day hour minute second has_day.0 has_day.1 has_day.2 has_clock.0 has_clock.1 has_clock.2
    (λ are. let both : false ≡ true = c.in_err-civil.ensures.variant ∙ succeeds.1 are in cc))
