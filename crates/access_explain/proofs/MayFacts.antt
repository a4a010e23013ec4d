-- A ground allows exactly where statements, grants and the ceiling say that the caller may.
use Rattle.std.proofs.Common.{◌≡◌, ◌⊎◌, inl, inr, ⊎_elim, ℕ, true, false, List, refl, sym, ap, ◌∙◌, subst}
use Rattle.std.specs.Prelude.{◌↔◌, IsTrue, Any, Contains}
use Rattle.kms_names.specs.declared.principals.Principal.{Principal}
use Rattle.kms_names.specs.declared.principals.Principal.TheVariants.{Root, User, Role}
use Rattle.cond_ops.specs.declared.facts.RequestFacts.{RequestFacts}
use Rattle.policy_doc.specs.declared.policies.Policy.{Policy}
use Rattle.policy_doc.specs.declared.policies.Named.TheVariants.{One}
use Rattle.policy_doc.specs.declared.policies.Statement.{Statement}
use Rattle.policy_eval.specs.Naming.{root_of}
use Rattle.policy_eval.specs.Verdict.{AllowsCaller, AllowsAccount, SomeDenies, SomeAllowsCaller, SomeAllowsAccount}
use Rattle.policy_eval.specs.Ceiling.{Under, SomeDocumentDenies, SomeDocumentAllows}
use Rattle.policy_eval.specs.CeilingOf.{ceiling_of, ceiling_of_lem}
use Rattle.policy_eval.specs.declared.ceilings.CeilingVerdict.{CeilingVerdict}
use Rattle.policy_eval.specs.declared.ceilings.CeilingVerdict.TheVariants.{Passes, Stops}
use Rattle.authority.specs.Setting.{callers_policies, is_root}
use Rattle.account_steps.specs.declared.questions.Question.{Question}
use Rattle.access_explain.specs.declared.findings.Finding.{Finding}
use Rattle.access_explain.specs.declared.grounds.Ground.{Ground}
use Rattle.access_explain.specs.declared.grounds.Ground.TheVariants as ground
use Rattle.access_explain.specs.declared.marks.Mark.TheVariants as mark
use Rattle.access_explain.specs.declared.subjects.Subject.TheVariants as about
use Rattle.access_explain.specs.Findings.{Basis, statements_of, of_the_key, Retires, Fits, IsFindingOn}
use Rattle.access_explain.specs.Grounds.{IsFirst, rows_for, allows}
use Rattle.access_explain.specs.Runs.{SomeIs}
use Rattle.access_explain.proofs.HitFacts.{AllowsRootAlone, documents_deny, documents_allow, key_denies, key_allows, key_allows_root}

-- ---- a ground that allows, and one that denies

module _ {M : Type 0} (g row : Ground) (e : g ≡ row) where
  yes : allows row ≡ true → M → IsTrue (allows g) ↔ M
  yes is m = (λ t. m, λ any. ap allows e ∙ is)

  no : allows row ≡ false → (M → ⊥) → IsTrue (allows g) ↔ M
  no is never = (λ t. absurd (let bad : false ≡ true = sym (ap allows e ∙ is) ∙ t in cc), λ m. absurd (never m))

-- ---- the ceiling lets it pass or doesn't

by_verdict : {U : Type 0} (v : CeilingVerdict) → (v ≡ Passes) ↔ U → U ⊎ (¬ U)
by_verdict Passes tells = inl (tells.0 refl)
by_verdict Stops tells = inr (λ u. let bad : Stops ≡ Passes = tells.1 u in cc)

under_or_not : (documents : List Policy) (request : RequestFacts) → Under documents request ⊎ (¬ (Under documents request))
under_or_not documents request = by_verdict (ceiling_of documents request) (ceiling_of_lem documents request)

surely : {U : Type 0} → U ⊎ (¬ U) → ¬ (¬ U) → U
surely (inl u) twice = u
surely (inr not) twice = absurd (twice not)

-- ---- the root

root_is : (p : Principal) → IsTrue (is_root p) → root_of p ≡ p
root_is (Root account) is = refl
root_is (User account name) is = absurd (cc)
root_is (Role account name) is = absurd (cc)

module _ (request : RequestFacts) (statements : List Statement) where
  -- whom the root stands for is the root itself, where it asks
  root_allowed : IsTrue (is_root request.caller) → SomeAllowsAccount statements request → SomeAllowsCaller statements request
  unfolding AllowsAccount AllowsCaller
  root_allowed root (k, s, lt, at, allows) = (k, s, lt, at, (allows.0, inr (subst (λ (p : Principal). Contains s.principals (One p)) (root_is request.caller root) allows.1)))

  root_alone : ¬ (SomeAllowsCaller statements request) → SomeAllowsAccount statements request → Any (AllowsRootAlone request) statements
  unfolding AllowsAccount AllowsCaller
  root_alone none (k, s, lt, at, allows) = (k, s, lt, at, (allows, λ named. none (k, s, lt, at, (allows.0, named))))

  account_too : Any (AllowsRootAlone request) statements → SomeAllowsAccount statements request
  account_too (k, s, lt, at, allows) = (k, s, lt, at, allows.0)

module _ (basis : Basis) (q : Question) (f : Finding) where
  abbrev pub own : List Policy
  own = callers_policies basis.identities q.facts.caller

  -- the caller's own policies allow it, or it is the root
  abbrev pub OwnAllow : Type 0
  OwnAllow = IsTrue (is_root q.facts.caller) ⊎ SomeDocumentAllows own q.facts

  -- ---- about a key

  module _ (key : List ℕ) where
    abbrev statements : List Statement
    statements = of_the_key basis q (about.Key key)

    abbrev pub MayOn : Type 0 → Type 0
    MayOn G =
        Under basis.ceiling q.facts
        × (¬ (SomeDenies statements q.facts) × ¬ (SomeDocumentDenies own q.facts)
        × (SomeAllowsCaller statements q.facts ⊎ (SomeAllowsAccount statements q.facts × OwnAllow) ⊎ G))

    pub on_key : {G : Type 0} → G ↔ Contains f.grant_marks mark.Hit → IsFindingOn basis q (about.Key key) f → IsTrue (allows f.ground) ↔ MayOn G
    on_key {G} granted is = by_row is.ground
      where
        denies : SomeIs false mark.Hit statements f.key_marks ↔ SomeDenies statements q.facts
        denies = key_denies q.facts statements f.key_marks is.key

        caller : SomeIs true mark.Hit statements f.key_marks ↔ SomeAllowsCaller statements q.facts
        caller = key_allows q.facts statements f.key_marks is.key

        alone : SomeIs true mark.RootHit statements f.key_marks ↔ Any (AllowsRootAlone q.facts) statements
        alone = key_allows_root q.facts statements f.key_marks is.key

        own_denies : SomeIs false mark.Hit (statements_of own) f.identity_marks ↔ SomeDocumentDenies own q.facts
        own_denies = documents_deny q.facts own f.identity_marks is.identity

        own_allows : SomeIs true mark.Hit (statements_of own) f.identity_marks ↔ SomeDocumentAllows own q.facts
        own_allows = documents_allow q.facts own f.identity_marks is.identity

        never : ¬ (Fits basis q (about.Key key) f ground.KeyPolicy) → ¬ (Fits basis q (about.Key key) f ground.RootAndIdentity) → ¬ (Fits basis q (about.Key key) f ground.Grant)
            → SomeAllowsCaller statements q.facts ⊎ (SomeAllowsAccount statements q.facts × OwnAllow) ⊎ G → ⊥
        never a r n (inl direct) = a (caller.1 direct)
        never a r n (inr (inl (account, inl root))) = a (caller.1 (root_allowed q.facts statements root account))
        never a r n (inr (inl (account, inr allow))) = r (alone.1 (root_alone q.facts statements (λ direct. a (caller.1 direct)) account), own_allows.1 allow)
        never a r n (inr (inr given)) = n (granted.0 given)

        by_row : IsFirst (Fits basis q (about.Key key) f) (rows_for (about.Key key)) f.ground → IsTrue (allows f.ground) ↔ MayOn G
        by_row (inl (d, e)) = no f.ground ground.KeyDeny e refl (λ may. may.1.0 (denies.0 d))
        by_row (inr (d, inl (i, e))) = no f.ground ground.IdentityDeny e refl (λ may. may.1.1 (own_denies.0 i))
        by_row (inr (d, inr (i, inl (u, e)))) = no f.ground ground.Ceiling e refl (λ may. u may.0)
        by_row (inr (d, inr (i, inr (u, inl (a, e))))) =
            yes f.ground ground.KeyPolicy e refl (surely (under_or_not basis.ceiling q.facts) u, (λ x. d (denies.1 x), λ x. i (own_denies.1 x), inl (caller.0 a)))
        by_row (inr (d, inr (i, inr (u, inr (a, inl (r, e)))))) =
            yes f.ground ground.RootAndIdentity e refl
            (surely (under_or_not basis.ceiling q.facts) u, (λ x. d (denies.1 x), λ x. i (own_denies.1 x), inr (inl (account_too q.facts statements (alone.0 r.0), inr (own_allows.0 r.1)))))
        by_row (inr (d, inr (i, inr (u, inr (a, inr (r, inl (n, e))))))) =
            yes f.ground ground.Grant e refl (surely (under_or_not basis.ceiling q.facts) u, (λ x. d (denies.1 x), λ x. i (own_denies.1 x), inr (inr (granted.1 n))))
        by_row (inr (d, inr (i, inr (u, inr (a, inr (r, inr (n, inl (t, e)))))))) = no f.ground ground.Nothing e refl (λ may. never a r n may.1.2)
        by_row (inr (d, inr (i, inr (u, inr (a, inr (r, inr (n, inr (t, bad)))))))) = absurd bad

  -- ---- about no key

  abbrev pub MayOnOther : Type 0
  MayOnOther = Under basis.ceiling q.facts × (¬ (SomeDocumentDenies own q.facts) × OwnAllow)

  pub on_other : IsFindingOn basis q about.Other f → IsTrue (allows f.ground) ↔ MayOnOther
  on_other is = by_row is.ground
    where
      own_denies : SomeIs false mark.Hit (statements_of own) f.identity_marks ↔ SomeDocumentDenies own q.facts
      own_denies = documents_deny q.facts own f.identity_marks is.identity

      own_allows : SomeIs true mark.Hit (statements_of own) f.identity_marks ↔ SomeDocumentAllows own q.facts
      own_allows = documents_allow q.facts own f.identity_marks is.identity

      by_row : IsFirst (Fits basis q about.Other f) (rows_for about.Other) f.ground → IsTrue (allows f.ground) ↔ MayOnOther
      by_row (inl (i, e)) = no f.ground ground.IdentityDeny e refl (λ may. may.1.0 (own_denies.0 i))
      by_row (inr (i, inl (u, e))) = no f.ground ground.Ceiling e refl (λ may. u may.0)
      by_row (inr (i, inr (u, inl (a, e)))) = yes f.ground ground.Identity e refl (surely (under_or_not basis.ceiling q.facts) u, (λ x. i (own_denies.1 x), inr (own_allows.0 a)))
      by_row (inr (i, inr (u, inr (a, inl (r, e))))) = yes f.ground ground.Root e refl (surely (under_or_not basis.ceiling q.facts) u, (λ x. i (own_denies.1 x), inl r))
      by_row (inr (i, inr (u, inr (a, inr (r, inl (t, e)))))) = no f.ground ground.Nothing e refl (λ may. ⊎_elim r (λ allow. a (own_allows.1 allow)) may.1.1)
      by_row (inr (i, inr (u, inr (a, inr (r, inr (t, bad)))))) = absurd bad

  -- ---- about a grant that is to be retired

  pub on_retiring : (key grant : List ℕ) → IsFindingOn basis q (about.Retiring key grant) f → IsTrue (allows f.ground) ↔ Retires q.facts.caller basis.grants (about.Retiring key grant)
  on_retiring key grant is = by_row is.ground
    where
      by_row : IsFirst (Fits basis q (about.Retiring key grant) f) (rows_for (about.Retiring key grant)) f.ground → IsTrue (allows f.ground) ↔ Retires q.facts.caller basis.grants (about.Retiring key grant)
      by_row (inl (r, e)) = yes f.ground ground.Retire e refl r
      by_row (inr (r, inl (t, e))) = no f.ground ground.Nothing e refl r
      by_row (inr (r, inr (t, bad))) = absurd bad
