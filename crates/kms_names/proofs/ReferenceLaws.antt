-- A text refers to one thing.
use Rattle.std.proofs.Common.{◌≡◌, ℕ, true, List, get_or, Some, refl, ap, sym, ◌∙◌, subst, inl, inr, arith, lit<}
use Rattle.std.specs.Prelude.{codes}
use Rattle.std.proofs.lemmas.Bool.{false≢true}
use Rattle.std.proofs.lemmas.List.{append_cancel_left}
use Rattle.std.proofs.lemmas.Option.{same_Some}
use Rattle.uuid.specs.Text.{parsed_hyphenated, is_hex_digit}
use Rattle.kms_names.specs.Alias.{IsAliasName}
use Rattle.kms_names.specs.Reference.{IsKmsArn, IsKeyResource, RefersTo}
use Rattle.kms_names.specs.declared.references.KeyRef.{KeyRef}
use Rattle.kms_names.specs.declared.references.KeyRef.TheVariants.{Key, Alias, Elsewhere}
use Rattle.kms_names.proofs.KeyTextFacts.{written_id}
use Rattle.kms_names.proofs.ReferenceFacts.{same_kms_arn}

-- the second character tells an id, an ARN and an alias name apart
pub id_second : (text key : List ℕ) → parsed_hyphenated text ≡ Some key → is_hex_digit (get_or text 1 0) ≡ true
id_second text key reads = (written_id text key reads).digits 1 (lit< tt)

pub arn_second : (text r a s : List ℕ) → IsKmsArn text r a s → get_or text 1 0 ≡ 114
arn_second text r a s at = ap (λ t. get_or t 1 0) at.2

pub alias_second : (name : List ℕ) → IsAliasName name → get_or name 1 0 ≡ 108
alias_second name h = ap (λ t. get_or t 1 0) h.1

no_id_arn : (text key r a s : List ℕ) → parsed_hyphenated text ≡ Some key → ¬ (IsKmsArn text r a s)
no_id_arn text key r a s reads at = false≢true (ap is_hex_digit (sym (arn_second text r a s at)) ∙ id_second text key reads)

no_id_alias : (text key : List ℕ) → parsed_hyphenated text ≡ Some key → ¬ (IsAliasName text)
no_id_alias text key reads h = false≢true (ap is_hex_digit (sym (alias_second text h)) ∙ id_second text key reads)

no_arn_alias : (text r a s : List ℕ) → IsKmsArn text r a s → ¬ (IsAliasName text)
no_arn_alias text r a s at h = let apart : 114 ≡ 108 = sym (arn_second text r a s at) ∙ alias_second text h in omega (arith, apart)

-- a key's resource is no alias name
no_key_alias : (s key : List ℕ) → IsKeyResource s key → ¬ (IsAliasName s)
no_key_alias s key (id, same, reads) h =
    let apart : 101 ≡ 108 = sym (ap (λ t. get_or t 1 0) same) ∙ alias_second s h in omega (arith, apart)

one_key : (s s' k k' : List ℕ) → s ≡ s' → IsKeyResource s k → IsKeyResource s' k' → k ≡ k'
one_key s s' k k' same (id, here, reads) (id', there, reads') =
    let ids : id ≡ id' = append_cancel_left (codes "key/") id id' (sym here ∙ same ∙ there) in
    same_Some k k' (sym reads ∙ ap parsed_hyphenated ids ∙ reads')

module _ (text account region : List ℕ) where
  -- what lies here is not elsewhere
  not_elsewhere : (s : List ℕ) → IsKmsArn text region account s → ¬ (RefersTo text account region Elsewhere)
  not_elsewhere s here (r, a, s', there, resource, other) =
      let same = same_kms_arn text r a s' region account s there here in other (same.0, same.1)

  id_is_here : (key : List ℕ) → parsed_hyphenated text ≡ Some key → ¬ (RefersTo text account region Elsewhere)
  id_is_here key reads (r, a, s, there, resource, other) = no_id_arn text key r a s reads there

  name_is_here : IsAliasName text → ¬ (RefersTo text account region Elsewhere)
  name_is_here h (r, a, s, there, resource, other) = no_arn_alias text r a s there h

  key_here : (key : List ℕ) → RefersTo text account region (Key key) → ¬ (RefersTo text account region Elsewhere)
  key_here key (inl reads) other = id_is_here key reads other
  key_here key (inr (s, at, resource)) other = not_elsewhere s at other

  alias_here : (name : List ℕ) → RefersTo text account region (Alias name) → ¬ (RefersTo text account region Elsewhere)
  alias_here name (h, inl same) other = name_is_here (subst IsAliasName (sym same) h) other
  alias_here name (h, inr at) other = not_elsewhere name at other

  no_key_and_alias : (key name : List ℕ) → RefersTo text account region (Key key) → ¬ (RefersTo text account region (Alias name))
  no_key_and_alias key name (inl reads) (h, inl same) = no_id_alias text key reads (subst IsAliasName (sym same) h)
  no_key_and_alias key name (inl reads) (h, inr at) = no_id_arn text key region account name reads at
  no_key_and_alias key name (inr (s, at, resource)) (h, inl same) = no_arn_alias text region account s at (subst IsAliasName (sym same) h)
  no_key_and_alias key name (inr (s, at, resource)) (h, inr there) =
      no_key_alias s key resource (subst IsAliasName (sym (same_kms_arn text region account s region account name at there).2) h)

  same_key : (k k' : List ℕ) → RefersTo text account region (Key k) → RefersTo text account region (Key k') → k ≡ k'
  same_key k k' (inl reads) (inl reads') = same_Some k k' (sym reads ∙ reads')
  same_key k k' (inl reads) (inr (s, at, resource)) = absurd (no_id_arn text k region account s reads at)
  same_key k k' (inr (s, at, resource)) (inl reads) = absurd (no_id_arn text k' region account s reads at)
  same_key k k' (inr (s, at, resource)) (inr (s', at', resource')) =
      one_key s s' k k' (same_kms_arn text region account s region account s' at at').2 resource resource'

  same_alias : (n n' : List ℕ) → RefersTo text account region (Alias n) → RefersTo text account region (Alias n') → n ≡ n'
  same_alias n n' (h, inl same) (h', inl same') = sym same ∙ same'
  same_alias n n' (h, inl same) (h', inr at) = absurd (no_arn_alias text region account n' at (subst IsAliasName (sym same) h))
  same_alias n n' (h, inr at) (h', inl same) = absurd (no_arn_alias text region account n at (subst IsAliasName (sym same) h'))
  same_alias n n' (h, inr at) (h', inr at') = (same_kms_arn text region account n region account n' at at').2

  pub one_reference : (x y : KeyRef) → RefersTo text account region x → RefersTo text account region y → x ≡ y
  one_reference (Key k) (Key k') h h' = ap Key (same_key k k' h h')
  one_reference (Key k) (Alias n) h h' = absurd (no_key_and_alias k n h h')
  one_reference (Key k) Elsewhere h h' = absurd (key_here k h h')
  one_reference (Alias n) (Key k) h h' = absurd (no_key_and_alias k n h' h)
  one_reference (Alias n) (Alias n') h h' = ap Alias (same_alias n n' h h')
  one_reference (Alias n) Elsewhere h h' = absurd (alias_here n h h')
  one_reference Elsewhere (Key k) h h' = absurd (key_here k h' h)
  one_reference Elsewhere (Alias n) h h' = absurd (alias_here n h' h)
  one_reference Elsewhere Elsewhere h h' = refl
