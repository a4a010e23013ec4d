use Rattle.std.proofs.Common.{ap, sym, ◌≡◌, ◌∙◌, [], true, refl, inl, inr, List, map, string_bytes, subst}
use Rattle.clap.specs.Words.{Text, app_of, fault_of, subcommand_of, is_simple, is_simple_and_free, kind_of, IsAmong, Kinds}
use Rattle.clap.proofs.OnLiterals.{clap_on_literals}
use Rattle.kms_words.specs.Words.{whole_line}
use Rattle.kms_words.proofs.line.read_line.Goals as goal

simple : is_simple_and_free whole_line ≡ true
unfolding clap_on_literals
simple = refl

plain : is_simple whole_line ≡ true
unfolding clap_on_literals
plain = refl

pub returns-in-Ok-clause-rows : goal.returns-in-Ok-clause-rows
returns-in-Ok-clause-rows c =
    let words : List Text = map string_bytes c.args.words.now in
    let line_is : app_of c.in_ok-whole_command.field-0 ≡ whole_line = c.in_ok-whole_command.ensures in
    (c.in-Ok.ensures.matches (ap is_simple line_is ∙ plain)).1 ∙ ap (λ a. subcommand_of a words) line_is

pub returns-in-Ok-clause-ok : goal.returns-in-Ok-clause-ok
returns-in-Ok-clause-ok c =
    let words : List Text = map string_bytes c.args.words.now in
    let line_is : app_of c.in_ok-whole_command.field-0 ≡ whole_line = c.in_ok-whole_command.ensures in
    ap (λ a. fault_of a words) (sym line_is) ∙ c.in-Ok.ensures.kinds (ap is_simple_and_free line_is ∙ simple)

pub returns : goal.returns
returns c =
    let words : List Text = map string_bytes c.args.words.now in
    let line_is : app_of c.in_ok-whole_command.field-0 ≡ whole_line = c.in_ok-whole_command.ensures in
    let fails = c.in-Err.ensures.kinds (ap is_simple_and_free line_is ∙ simple) in
    record {
      rows = tt;
      ok = tt;
      refused = λ _ none.
          let same : fault_of (app_of c.in_ok-whole_command.field-0) words ≡ [] = ap (λ a. fault_of a words) line_is ∙ none in
          elim fails [
            | inl memory ↦ absurd (c.in_default.not-OutOfMemory (c.kind.ensures ∙ memory))
            | inr among ↦ let P : Kinds → Type 0 = IsAmong (kind_of c.in-Err.error) in subst P same among
          ];
    }
