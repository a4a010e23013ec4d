-- What is kept of the account that a session leaves, by the one pass of a service.
use Rattle.std.proofs.Common.{◌≡◌, ℕ, zero, suc, List, [], ◌∷◌, ◌++◌, length, length-append, Bool, refl, sym, ap, ap₂, ◌∙◌, subst, arith}
use mathlib.Core.List.{IsPrefix, append-nil}
use Rattle.std.proofs.lemmas.List.{length-map}
use Rattle.account_steps.specs.declared.facts.RealmFacts.{RealmFacts}
use Rattle.account_steps.specs.History.{Entry}
use Rattle.published_account.specs.Growing.{Pairs}
use Rattle.published_account.specs.Pairs.{entries_of, loaded_pairs}
use Rattle.published_account.proofs.Lists.{prefix_whole}
use Rattle.publish_pass.specs.Pass.{Pass, Meets, MadeAll, first_places}
use Rattle.kms_server.specs.declared.crew.Kept.{Kept}
use Rattle.kms_server.specs.Crew.{KeepsOf, keeps_nothing, keeps_whole, lacks_memory}
use Rattle.kms_program.specs.Program.{IsKeptOf}

length_first : (n : ℕ) → length (first_places n) ≡ n
length_first zero = refl
length_first (suc n) = let front = length_first n in omega (arith, front, length-append (first_places n) (n ∷ []))

-- two passes of one service that made all hold as many entries where they made as many
same_length : (s u : Pass) → MadeAll s → MadeAll u → u.loaded ≡ s.loaded → u.own ≡ s.own → length u.history ≡ length s.history
same_length s u all more loaded own =
    sym (length_first (length u.history)) ∙ ap length (more ∙ ap₂ (λ (k : ℕ) (ps : List ℕ). first_places k ++ ps) loaded own ∙ sym all) ∙ length_first (length s.history)

same_history : (s t u : Pass) → t ≡ s → MadeAll s → Meets t u → MadeAll u → u.history ≡ s.history
same_history s t u same all met more =
    let loaded : u.loaded ≡ s.loaded = ap (λ (p : Pass). p.loaded) met.others ∙ ap (λ (p : Pass). p.loaded) same in
    let own : u.own ≡ s.own = ap (λ (p : Pass). p.own) met.others ∙ ap (λ (p : Pass). p.own) same in
    let size : length u.history ≡ length s.history = same_length s u all more loaded own in
    let there : length t.history ≡ length s.history = ap (λ (p : Pass). length p.history) same in
    sym (prefix_whole t.history u.history met.history (omega (arith, size, there))) ∙ ap (λ (p : Pass). p.history) same

pub kept_of : (facts : RealmFacts) (wanted : Bool) (left : Kept) (s t u : Pass) → KeepsOf facts wanted left t u → t ≡ s → MadeAll s → MadeAll u → facts ≡ s.facts → IsKeptOf s left
kept_of facts wanted left s t u keeps_nothing same all more of = tt
kept_of facts wanted left s t u (keeps_whole account met facts_are entries) same all more of =
    (facts_are ∙ of, entries ∙ ap entries_of (same_history s t u same all met more))
kept_of facts wanted left s t u (lacks_memory met) same all more of = tt

-- a pass that saw what was loaded alone
pub loaded_alone : (entries : List Entry) → first_places (length (loaded_pairs entries)) ≡ first_places (length entries) ++ []
loaded_alone entries = ap first_places (length-map entries (λ (entry : Entry). (entry, 0))) ∙ sym (append-nil (first_places (length entries)))
