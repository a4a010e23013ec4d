-- What hits of marks are, in terms of statements.
use Rattle.std.proofs.Common.{◌≡◌, inl, inr, ⊎_elim, true, false, List}
use Rattle.std.specs.Prelude.{◌↔◌, Any}
use Rattle.cond_ops.specs.declared.facts.RequestFacts.{RequestFacts}
use Rattle.policy_doc.specs.declared.policies.Policy.{Policy}
use Rattle.policy_doc.specs.declared.policies.Statement.{Statement}
use Rattle.policy_eval.specs.Matching.{Matches}
use Rattle.policy_eval.specs.Naming.{NamesCaller}
use Rattle.policy_eval.specs.Verdict.{IsAllow, IsDeny, IsDenyOf, AllowsCaller, AllowsAccount, SomeDenies, SomeAllowsCaller}
use Rattle.policy_eval.specs.Ceiling.{SomeDocumentDenies, SomeDocumentAllows}
use Rattle.access_explain.specs.declared.marks.Mark.{Mark}
use Rattle.access_explain.specs.declared.marks.Mark.TheVariants as mark
use Rattle.access_explain.specs.Runs.{OneByOne, SomeIs}
use Rattle.access_explain.specs.Marks.{IsMark, IsKeyMark}
use Rattle.access_explain.specs.Findings.{statements_of}
use Rattle.access_explain.proofs.MarkFacts.{not_both, one_mark, one_key_mark}
use Rattle.access_explain.proofs.RunFacts.{some_tells, any_flat}

module _ (request : RequestFacts) where
  -- ---- documents

  is_deny : (s : Statement) → ((s.allow ≡ false) × IsMark s request mark.Hit) ↔ IsDeny s request
  unfolding IsDeny Matches
  is_deny s = (λ h. h, λ h. h)

  is_allow : (s : Statement) → ((s.allow ≡ true) × IsMark s request mark.Hit) ↔ IsAllow s request
  unfolding IsAllow Matches
  is_allow s = (λ h. h, λ h. h)

  -- a hit of an effect is a statement of this effect that matches
  pub documents_deny : (documents : List Policy) (ms : List Mark) → OneByOne (λ s m. IsMark s request m) (statements_of documents) ms → SomeIs false mark.Hit (statements_of documents) ms ↔ SomeDocumentDenies documents request
  documents_deny documents ms all =
      let tells = some_tells (λ s m. IsMark s request m) (λ s. one_mark s request) false mark.Hit (λ s. IsDeny s request) is_deny (statements_of documents) ms all in
      let flat = any_flat (λ s. IsDeny s request) (λ (p : Policy). p.statements) documents in
      (λ some. flat.0 (tells.0 some), λ any. tells.1 (flat.1 any))

  pub documents_allow : (documents : List Policy) (ms : List Mark) → OneByOne (λ s m. IsMark s request m) (statements_of documents) ms → SomeIs true mark.Hit (statements_of documents) ms ↔ SomeDocumentAllows documents request
  documents_allow documents ms all =
      let tells = some_tells (λ s m. IsMark s request m) (λ s. one_mark s request) true mark.Hit (λ s. IsAllow s request) is_allow (statements_of documents) ms all in
      let flat = any_flat (λ s. IsAllow s request) (λ (p : Policy). p.statements) documents in
      (λ some. flat.0 (tells.0 some), λ any. tells.1 (flat.1 any))

  -- ---- the policy of a key

  is_deny_of : (s : Statement) → ((s.allow ≡ false) × IsKeyMark s request mark.Hit) ↔ IsDenyOf s request
  unfolding IsDenyOf
  is_deny_of s = (
    λ h. ((is_deny s).0 (h.0, h.1.0), ⊎_elim (λ caller. inl caller) (λ both. inr both.1) h.1.1),
    λ h. let denies = (is_deny s).1 h.0 in (denies.0, (denies.1, ⊎_elim (λ caller. inl caller) (λ root. inr (denies.0, root)) h.1)),
  )

  is_allow_of : (s : Statement) → ((s.allow ≡ true) × IsKeyMark s request mark.Hit) ↔ AllowsCaller s request
  unfolding AllowsCaller
  is_allow_of s = (
    λ h. ((is_allow s).0 (h.0, h.1.0), ⊎_elim (λ caller. caller) (λ both. absurd (not_both both.0 h.0)) h.1.1),
    λ h. let allows = (is_allow s).1 h.0 in (allows.0, (allows.1, inl h.1)),
  )

  -- it allows the account, and doesn't name the caller
  abbrev pub AllowsRootAlone : Statement → Type 0
  AllowsRootAlone s = AllowsAccount s request × ¬ (NamesCaller s.principals request.caller)

  is_root_hit : (s : Statement) → ((s.allow ≡ true) × IsKeyMark s request mark.RootHit) ↔ AllowsRootAlone s
  unfolding AllowsAccount
  is_root_hit s = (
    λ h. (((is_allow s).0 (h.0, h.1.0), h.1.1.1), h.1.1.2),
    λ h. let allows = (is_allow s).1 h.0.0 in (allows.0, (allows.1, (allows.0, h.0.1, h.1))),
  )

  module _ (ss : List Statement) (ms : List Mark) (all : OneByOne (λ s m. IsKeyMark s request m) ss ms) where
    pub key_denies : SomeIs false mark.Hit ss ms ↔ SomeDenies ss request
    key_denies = some_tells (λ s m. IsKeyMark s request m) (λ s. one_key_mark s request) false mark.Hit (λ s. IsDenyOf s request) is_deny_of ss ms all

    pub key_allows : SomeIs true mark.Hit ss ms ↔ SomeAllowsCaller ss request
    key_allows = some_tells (λ s m. IsKeyMark s request m) (λ s. one_key_mark s request) true mark.Hit (λ s. AllowsCaller s request) is_allow_of ss ms all

    pub key_allows_root : SomeIs true mark.RootHit ss ms ↔ Any AllowsRootAlone ss
    key_allows_root = some_tells (λ s m. IsKeyMark s request m) (λ s. one_key_mark s request) true mark.RootHit AllowsRootAlone is_root_hit ss ms all
