-- The one pass of a service, once it has settled.
use Rattle.std.proofs.Common.{◌≡◌, ◌++◌, ℕ, length, sym, ap, ◌∙◌, subst}
use Rattle.publish_pass.specs.Pass.{Pass, LearnsAll, MadeAll, first_places}

module _ (s t : Pass) (settles : LearnsAll s t) (n shown : ℕ) (now : t.passes ≡ n) (names : shown ≡ n) (one : shown ≡ 1) where
  alone : s.passes ≡ 1
  alone = sym (ap (λ (p : Pass). p.passes) settles.seen.others) ∙ now ∙ sym names ∙ one

  -- it knew all
  pub knew_all : t ≡ s
  knew_all = settles.knew alone

  -- and made all that wasn't loaded
  pub made_all : MadeAll s
  made_all = subst MadeAll knew_all (settles.made_all (now ∙ sym names ∙ one))

  -- which is all where nothing was
  pub made_each : t.loaded ≡ 0 → s.own ≡ first_places (length s.history)
  made_each none = sym (made_all ∙ ap (λ (k : ℕ). first_places k ++ s.own) (sym (ap (λ (p : Pass). p.loaded) knew_all) ∙ none))
