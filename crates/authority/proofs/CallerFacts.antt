-- Policies that are kept by their ARNs.
use Rattle.std.proofs.Common.{◌≡◌, ◌≢◌, ℕ, ◌+◌, ◌<◌, Bool, true, false, cond, List, [], ◌∷◌, map, length, take, get_or, Option, Some, None, Bor, refl, sym, ap, ◌∙◌, if◌then◌else◌}
use Rattle.std.specs.Prelude.{option_map, is_some}
use Rattle.std.specs.Option.{option_or, option_copied}
use Rattle.std.specs.Map.{lookup}
use Rattle.std.specs.Str.{bytes_eq}
use Rattle.std.proofs.lemmas.List.{take_more}
use Rattle.std.proofs.lemmas.List.Folds.{find-append}
use Rattle.kms_names.specs.Principal.{principal_text}
use Rattle.policy_doc.specs.declared.policies.Policy.{Policy}
use Rattle.authority.specs.declared.identities.Identity.{Identity}
use Rattle.authority.specs.Setting.{identity_at}
use Rattle.authority.specs.Callers.{if_same}

-- what stands in the entries stands in what is seen of them
module _ {K V : Type 0} (text : K → List ℕ) (items : V → List Policy) where
  abbrev seen_in : List (K × V) → List (List ℕ × List Policy)
  seen_in entries = map (λ (e : K × V). (text e.0, items e.1)) entries

  abbrev kept_in : List (K × V) → List ℕ → Option V
  kept_in entries arn = lookup (λ (k : K). bytes_eq arn (text k)) entries

  seen_where : (b : Bool) (e : K × V) (entries : List (K × V)) (arn : List ℕ) → lookup (bytes_eq arn) (seen_in entries) ≡ option_map items (kept_in entries arn)
      → cond b (Some (items e.1)) (lookup (bytes_eq arn) (seen_in entries)) ≡ option_map items (cond b (Some e.1) (kept_in entries arn))
  seen_where true e entries arn rest = refl
  seen_where false e entries arn rest = rest

  pub seen_at : (entries : List (K × V)) (arn : List ℕ) → lookup (bytes_eq arn) (seen_in entries) ≡ option_map items (kept_in entries arn)
  seen_at [] arn = refl
  seen_at (e ∷ entries) arn = seen_where (bytes_eq arn (text e.0)) e entries arn (seen_at entries arn)

abbrev policies_found : Option Identity → Option (List Policy)
policies_found o = option_map (λ (identity : Identity). identity.policies) o

-- ---- one more identity

-- it stands behind the others, of which the first of an ARN counts
pub push_one : (b : Bool) (old : Option Identity) (kept : Option (List Policy)) (item : Identity) → kept ≡ policies_found old
    → option_or kept (if_same b item.policies) ≡ policies_found (option_or old (if b then Some item else None))
push_one true None kept item is = ap (λ (o : Option (List Policy)). option_or o (Some item.policies)) is
push_one true (Some first) kept item is = ap (λ (o : Option (List Policy)). option_or o (Some item.policies)) is
push_one false None kept item is = ap (λ (o : Option (List Policy)). option_or o None) is
push_one false (Some first) kept item is = ap (λ (o : Option (List Policy)). option_or o None) is

-- ---- the policies of an ARN are kept

-- there are some
pub kept_already : (b : Bool) (kept : Option (List Policy)) (policies : List Policy) → (b ≡ true → kept ≢ None) → kept ≡ option_or kept (if_same b policies)
kept_already b (Some first) policies there = refl
kept_already true None policies there = absurd (there refl refl)
kept_already false None policies there = refl

-- there are none
pub kept_now : (b : Bool) (kept : Option (List Policy)) (policies : List Policy) → (b ≡ true → kept ≡ None) → cond b (Some policies) kept ≡ option_or kept (if_same b policies)
kept_now true kept policies none = ap (λ (o : Option (List Policy)). option_or o (Some policies)) (sym (none refl))
kept_now false None policies none = refl
kept_now false (Some first) policies none = refl

-- ---- what a map gives

pub copied_some : {X : Type 0} (r : Option (Bor X)) (got : Option X) (b : Bool) → option_copied r ≡ got → is_some r ≡ b → is_some got ≡ b
copied_some (Some x) got b e is = ap is_some (sym e) ∙ is
copied_some None got b e is = ap is_some (sym e) ∙ is

pub not_none : {X : Type 0} (items : X → List Policy) (got : Option X) → is_some got ≡ true → option_map items got ≢ None
not_none items (Some x) e none = cc
not_none items None e none = cc

pub is_none : {X : Type 0} (items : X → List Policy) (got : Option X) → is_some got ≡ false → option_map items got ≡ None
is_none items (Some x) e = cc
is_none items None e = refl

pub map_cond : {X : Type 0} (items : X → List Policy) (b : Bool) (v : X) (got : Option X) → option_map items (cond b (Some v) got) ≡ cond b (Some (items v)) (option_map items got)
map_cond items true v got = refl
map_cond items false v got = refl

pub identity_push : (identities : List Identity) (i : ℕ) (item : Identity) (arn : List ℕ) → i < length identities → item ≡ get_or identities i item
    → identity_at (take (i + 1) identities) arn ≡ option_or (identity_at (take i identities) arn) (if bytes_eq (principal_text item.principal) arn then Some item else None)
identity_push identities i item arn within is =
    ap (λ (l : List Identity). identity_at l arn) (take_more identities i item within)
    ∙ find-append (λ (identity : Identity). bytes_eq (principal_text identity.principal) arn) (take i identities) (get_or identities i item ∷ [])
    ∙ ap (λ (x : Identity). option_or (identity_at (take i identities) arn) (if bytes_eq (principal_text x.principal) arn then Some x else None)) (sym is)
