-- Which command words are.
use Rattle.std.proofs.Common.{◌≡◌, ◌≢◌, List, [], ◌∷◌, Bool, true, false, Option, None, refl, ap, sym, ◌∙◌, map, string_bytes, if◌then◌else◌}
use Rattle.std.specs.List.{list_any}
use Rattle.std.specs.Prelude.{String}
use Rattle.std.specs.Global.{Global}
use Rattle.clap.specs.Words.{Row, Text, Kinds, fault_of, subcommand_of}
use Rattle.clap.proofs.WalkLemmas.{list_any-map}
use Rattle.kms_words.specs.Words.{is_stray, whole_line, named_command, unless_refused, command_of}

-- one of the words is one that no command has, by the words as they are given
pub stray_in : (words : List (String Global)) → list_any (λ word. is_stray (string_bytes word)) words ≡ list_any is_stray (map string_bytes words)
stray_in words = list_any-map is_stray string_bytes words

none_where : (kinds : Kinds) (named : Option (Text × List Row)) → kinds ≢ [] → unless_refused kinds named ≡ None
none_where [] named some = absurd (some refl)
none_where (kind ∷ kinds) named some = refl

pub stray_is_none : (words : List Text) → list_any is_stray words ≡ true → None ≡ command_of words
unfolding command_of
stray_is_none words is = ap (λ (b : Bool). if b then None else unless_refused (fault_of whole_line words) (subcommand_of whole_line words)) (sym is)

pub command_is : (words : List Text) → list_any is_stray words ≡ false → fault_of whole_line words ≡ [] → named_command (subcommand_of whole_line words) ≡ command_of words
unfolding command_of
command_is words clean taken =
    ap (λ (kinds : Kinds). unless_refused kinds (subcommand_of whole_line words)) (sym taken)
    ∙ ap (λ (b : Bool). if b then None else unless_refused (fault_of whole_line words) (subcommand_of whole_line words)) (sym clean)

pub refused_is_none : (words : List Text) → list_any is_stray words ≡ false → fault_of whole_line words ≢ [] → None ≡ command_of words
unfolding command_of
refused_is_none words clean refused =
    sym (none_where (fault_of whole_line words) (subcommand_of whole_line words) refused)
    ∙ ap (λ (b : Bool). if b then None else unless_refused (fault_of whole_line words) (subcommand_of whole_line words)) (sym clean)
