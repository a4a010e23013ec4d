-- Credentials with distinct ids.
use Rattle.std.proofs.Common.{◌≡◌, ◌<◌, ◌≤◌, ℕ, zero, suc, ◌+◌, List, [], ◌∷◌, ◌++◌, length, take, drop, get_or, Bool, true, false, not, ◌&&◌, ◌||◌, Some, refl, sym, ap, ap₂, ◌∙◌, arith}
use Rattle.std.specs.List.{position_or_len}
use Rattle.std.specs.Str.{bytes_eq}
use Rattle.sigv4_check.specs.declared.credentials.Credential.{Credential}
use Rattle.sigv4_check.specs.SignedNames.{is_before}
use Rattle.sigv4_check.specs.Credentials.{AreDistinct, are_distinct, has_id, placed, stands_behind, credential_of}
use Rattle.sigv4_check.proofs.SameFacts.{same_bytes, bytes_eq_comm}

left : (a b : Bool) → (a && b) ≡ true → a ≡ true
left true b h = refl
left false b h = h

right : (a b : Bool) → (a && b) ≡ true → b ≡ true
right true b h = h
right false b h = cc

or_left : (a b : Bool) → (a || b) ≡ false → a ≡ false
or_left true b h = h
or_left false b h = refl

or_right : (a b : Bool) → (a || b) ≡ false → b ≡ false
or_right true b h = cc
or_right false b h = h

or_true : (a b : Bool) → b ≡ true → (a || b) ≡ true
or_true true b h = refl
or_true false b h = h

not_true : (a : Bool) → not a ≡ true → a ≡ false
not_true true h = cc
not_true false h = refl

not_false : (a : Bool) → a ≡ false → not a ≡ true
not_false true h = cc
not_false false h = refl

and_true : (a b : Bool) → a ≡ true → b ≡ true → (a && b) ≡ true
and_true a b p q = rw p q

-- ---- the one of an id

skip_by : (id : List ℕ) (one : Credential) (creds : List Credential) (b : Bool) → bytes_eq one.id id ≡ b → ¬ (bytes_eq one.id id ≡ true) → credential_of id (one ∷ creds) ≡ credential_of id creds
skip_by id one creds true is never = absurd (never is)
skip_by id one creds false is never = rw is refl

here : (id : List ℕ) (one : Credential) (creds : List Credential) → bytes_eq one.id id ≡ true → credential_of id (one ∷ creds) ≡ Some one
here id one creds is = rw is refl

-- one that stands among them shows its id
shows : (id : List ℕ) (credential : Credential) (creds : List Credential) (place : ℕ) → place < length creds → credential ≡ get_or creds place credential → bytes_eq credential.id id ≡ true → has_id id creds ≡ true
shows id credential [] place within is named = absurd (omega arith)
shows id credential (one ∷ creds) zero within is named = let e : bytes_eq one.id id ≡ true = ap (λ (c : Credential). bytes_eq c.id id) (sym is) ∙ named in rw e refl
shows id credential (one ∷ creds) (suc place) within is named = or_true (bytes_eq one.id id) (has_id id creds) (shows id credential creds place (omega arith) is named)

pub found_first : (id : List ℕ) (credential : Credential) (creds : List Credential) (place : ℕ) → AreDistinct creds → place < length creds → credential ≡ get_or creds place credential
    → bytes_eq credential.id id ≡ true → Some credential ≡ credential_of id creds
found_first id credential [] place distinct within is named = absurd (omega arith)
found_first id credential (one ∷ creds) zero distinct within is named =
    let first : bytes_eq one.id id ≡ true = ap (λ (c : Credential). bytes_eq c.id id) (sym is) ∙ named in
    ap Some is ∙ sym (here id one creds first)
found_first id credential (one ∷ creds) (suc place) distinct within is named =
    let apart : has_id one.id creds ≡ false = not_true (has_id one.id creds) (left (not (has_id one.id creds)) (are_distinct creds) distinct) in
    let other = skip_by id one creds (bytes_eq one.id id) refl (λ e.
    let there : has_id one.id creds ≡ true = ap (λ (t : List ℕ). has_id t creds) (same_bytes one.id id e) ∙ shows id credential creds place (omega arith) is named in
    let both : true ≡ false = sym there ∙ apart in cc) in
    found_first id credential creds place (right (not (has_id one.id creds)) (are_distinct creds) distinct) (omega arith) is named ∙ sym other

-- ---- one more

or_swap : (a b c : Bool) → (a || (b || c)) ≡ (b || (a || c))
or_swap true true c = refl
or_swap true false c = refl
or_swap false b c = refl

placed_shows_by : (credential other : Credential) (creds : List Credential) (id : List ℕ) (b : Bool) → is_before credential.id other.id ≡ b
    → has_id id (placed credential creds) ≡ (bytes_eq credential.id id || has_id id creds)
    → has_id id (placed credential (other ∷ creds)) ≡ (bytes_eq credential.id id || has_id id (other ∷ creds))
placed_shows_by credential other creds id true is h = rw is refl
placed_shows_by credential other creds id false is h = rw is (ap (λ (t : Bool). bytes_eq other.id id || t) h ∙ or_swap (bytes_eq other.id id) (bytes_eq credential.id id) (has_id id creds))

placed_shows : (credential : Credential) (creds : List Credential) (id : List ℕ) → has_id id (placed credential creds) ≡ (bytes_eq credential.id id || has_id id creds)
placed_shows credential [] id = refl
placed_shows credential (other ∷ creds) id = placed_shows_by credential other creds id (is_before credential.id other.id) refl (placed_shows credential creds id)

placed_distinct_by : (credential other : Credential) (creds : List Credential) (b : Bool) → is_before credential.id other.id ≡ b → has_id credential.id (other ∷ creds) ≡ false → AreDistinct (other ∷ creds)
    → AreDistinct (placed credential creds) → AreDistinct (placed credential (other ∷ creds))
placed_distinct_by credential other creds true is new distinct rest = rw is (and_true _ _ (not_false (has_id credential.id (other ∷ creds)) new) distinct)
placed_distinct_by credential other creds false is new distinct rest =
    let apart : bytes_eq credential.id other.id ≡ false = bytes_eq_comm credential.id other.id ∙ or_left (bytes_eq other.id credential.id) (has_id credential.id creds) new in
    let none : has_id other.id creds ≡ false = not_true (has_id other.id creds) (left (not (has_id other.id creds)) (are_distinct creds) distinct) in
    let fresh : has_id other.id (placed credential creds) ≡ false = placed_shows credential creds other.id ∙ ap₂ (λ (a b : Bool). a || b) apart none in
    rw is (and_true _ _ (not_false (has_id other.id (placed credential creds)) fresh) rest)

pub placed_distinct : (credential : Credential) (creds : List Credential) → has_id credential.id creds ≡ false → AreDistinct creds → AreDistinct (placed credential creds)
placed_distinct credential [] new distinct = refl
placed_distinct credential (other ∷ creds) new distinct =
    placed_distinct_by credential other creds (is_before credential.id other.id) refl new distinct
    (placed_distinct credential creds (or_right (bytes_eq other.id credential.id) (has_id credential.id creds) new) (right (not (has_id other.id creds)) (are_distinct creds) distinct))

-- the place at which it stands
abbrev place_in : Credential → List Credential → ℕ
place_in credential creds = position_or_len (stands_behind credential.id) creds

inserted_by : (credential other : Credential) (creds : List Credential) (b : Bool) → is_before credential.id other.id ≡ b
    → take (place_in credential creds) creds ++ credential ∷ drop (place_in credential creds) creds ≡ placed credential creds
    → take (place_in credential (other ∷ creds)) (other ∷ creds) ++ credential ∷ drop (place_in credential (other ∷ creds)) (other ∷ creds) ≡ placed credential (other ∷ creds)
inserted_by credential other creds true is h = rw is refl
inserted_by credential other creds false is h =
    let next : 1 + place_in credential creds ≡ suc (place_in credential creds) = omega arith in
    rw is (ap (λ (n : ℕ). take n (other ∷ creds) ++ credential ∷ drop n (other ∷ creds)) next ∙ ap (λ cs. other ∷ cs) h)

within_by : (test : Credential → Bool) (one : Credential) (creds : List Credential) (b : Bool) → test one ≡ b → position_or_len test creds ≤ length creds → position_or_len test (one ∷ creds) ≤ length (one ∷ creds)
within_by test one creds true is h = rw is (omega arith)
within_by test one creds false is h = rw is (omega (arith, h))

pub place_within : (test : Credential → Bool) (creds : List Credential) → position_or_len test creds ≤ length creds
place_within test [] = omega arith
place_within test (one ∷ creds) = within_by test one creds (test one) refl (place_within test creds)

pub inserted : (credential : Credential) (creds : List Credential) → take (place_in credential creds) creds ++ credential ∷ drop (place_in credential creds) creds ≡ placed credential creds
inserted credential [] = refl
inserted credential (other ∷ creds) = inserted_by credential other creds (is_before credential.id other.id) refl (inserted credential creds)
