use Rattle.std.proofs.Common.{◌++◌, ℕ, length, refl, sym, ap, ◌∙◌, rules}
use Rattle.published_account.specs.Pairs.{entries_of}
use Rattle.publish_pass.specs.Pass.{Pass, fresh_pass, first_places}
use Rattle.kms_workload.proofs.Alone.{knew_all, made_all}
use Rattle.kms_program.proofs.Keeping.{kept_of, loaded_alone}
use Rattle.kms_program.proofs.holding.serve_once.Goals as goal

pub returns-in_default : goal.returns-in_default
returns-in_default g c =
    let whole = c.args.opening.shown.whole in
    record {
      serving = record { pass = fresh_pass whole.facts 1 (entries_of whole.pairs) 1; ends = refl; made_all = loaded_alone (entries_of whole.pairs) };
      keeps = tt;
    }

pub returns : goal.returns
returns g c =
    let s = c.serve_session-end.new.pass in
    let t = c.settle.new.self in
    let u = c.keep-kept.new.pass in
    let v = c.settle-2.new.self in
    let all = made_all s t c.settle.ensures.all _ _ c.settle.ensures.passes c.requires.names.2 c.requires.passes in
    let more = made_all u v c.settle-2.ensures.all _ _ c.settle-2.ensures.passes c.requires.names.2 c.requires.passes in
    let same = knew_all s t c.settle.ensures.all _ _ c.settle.ensures.passes c.requires.names.2 c.requires.passes in
    let loaded = sym (ap (λ (p : Pass). p.loaded) same) ∙ c.settle.ensures.loaded ∙ sym c.in-Ok.ensures.loaded in
    record {
      serving = record {
        pass = s;
        ends = search rules;
        made_all = all ∙ ap (λ (k : ℕ). first_places k ++ s.own) loaded;
      };
      keeps = kept_of g.R.Realm.facts c.args.keeps c.keep-kept.result s t u c.keep-kept.ensures same all more (sym c.seen-seen.ensures.facts ∙ ap (λ (p : Pass). p.facts) same);
    }
