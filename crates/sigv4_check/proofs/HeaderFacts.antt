-- What is read of the header Authorization is what it claims, and the other way round.
use Rattle.std.proofs.Common.{◌≡◌, ◌≢◌, ◌⊎◌, inl, inr, ℕ, zero, suc, Bool, true, false, ◌&&◌, ◌==◌, not, if◌then◌else◌, List, [], ◌∷◌, ◌++◌, length, map, Option, Some, None, refl, sym, ap, ap₂, ◌∙◌, subst, codes, arith}
use Rattle.std.specs.Prelude.{All, Contains, MatchOption, option_and_then}
use Rattle.std.specs.Bool.{Decides}
use Rattle.std.specs.List.{AllPass, join_with_byte, list_all, onto_first}
use Rattle.std.specs.Str.{bytes_eq}
use Rattle.std.proofs.lemmas.Bool.{false≢true}
use Rattle.std.proofs.lemmas.Bool.Decides.{Decides-and, Decides-by_and, Decides-eqb}
use Rattle.std.proofs.lemmas.List.{append_assoc, append_cancel_left}
use Rattle.std.proofs.lemmas.List.Elements.{All-nil, All-cons, All-head, All-tail, All-append, All-contains, All-weaker}
use Rattle.std.proofs.lemmas.List.Splits.{join_with_byte-slice_split, slice_split_at, slice_split_none}
use Rattle.std.proofs.lemmas.Slice.Eq.{bytes_eq-Decides}
use Rattle.kms_names.specs.Reading.{after_front, some_if}
use Rattle.kms_names.proofs.ReadingFacts.{after_front_is}
use Rattle.sigv4_check.specs.Parts.{is_byte, parts_at, skip_spaces, present, only}
use Rattle.sigv4_check.specs.Authorization.{Claims, Scope, scope_in, scope_of, is_lower_hex_digit, is_signature, signature_in, part_of, claims_from, claims_in, claims_behind, claims_of}
use Rattle.sigv4_check.specs.Header.{AreJoined, AreSpaces, AuthorizationOfReads, HasNo, IsAuthorization, credential_part, names_part, signature_part}

-- ---- fronts

front_read : (front text rest : List ℕ) → after_front front text ≡ Some rest → text ≡ front ++ rest
front_read front text rest e = by_value (after_front front text) (after_front_is front text) e
  where
    by_value : (o : Option (List ℕ)) → MatchOption o ((rest : List ℕ) → text ≢ front ++ rest) (λ rest. text ≡ front ++ rest) → o ≡ Some rest → text ≡ front ++ rest
    by_value None none e = cc
    by_value (Some found) is e = let same : found ≡ rest = cc in is ∙ ap (λ t. front ++ t) same

front_taken : (front rest : List ℕ) → after_front front (front ++ rest) ≡ Some rest
front_taken front rest = by_value (after_front front (front ++ rest)) (after_front_is front (front ++ rest))
  where
    by_value : (o : Option (List ℕ)) → MatchOption o ((r : List ℕ) → front ++ rest ≢ front ++ r) (λ r. front ++ rest ≡ front ++ r) → o ≡ Some rest
    by_value None none = absurd (none rest refl)
    by_value (Some found) is = ap Some (append_cancel_left front found rest (sym is))

other_front : (front rest other : List ℕ) → after_front front other ≡ None → front ++ rest ≢ other
other_front front rest other none e = let bad : Some rest ≡ None = sym (front_taken front rest) ∙ ap (after_front front) e ∙ none in cc

-- ---- what has no mark

no_head : (mark c : ℕ) (text : List ℕ) → c ≢ mark → HasNo mark text → HasNo mark (c ∷ text)
no_head mark c text head tail = All-cons (λ c. c ≢ mark) c text head tail

no_left : (mark : ℕ) (front rest : List ℕ) → HasNo mark (front ++ rest) → HasNo mark front
no_left mark [] rest all = All-nil (λ c. c ≢ mark)
no_left mark (c ∷ front) rest all = no_head mark c front (All-head (λ c. c ≢ mark) c (front ++ rest) all) (no_left mark front rest (All-tail (λ c. c ≢ mark) c (front ++ rest) all))

no_right : (mark : ℕ) (front rest : List ℕ) → HasNo mark (front ++ rest) → HasNo mark rest
no_right mark [] rest all = all
no_right mark (c ∷ front) rest all = no_right mark front rest (All-tail (λ c. c ≢ mark) c (front ++ rest) all)

no_byte : (mark : ℕ) (text : List ℕ) → HasNo mark text → All (λ c. is_byte mark c ≡ false) text
no_byte mark text free = All-weaker (λ c. c ≢ mark) (λ c. is_byte mark c ≡ false) (λ c other. by_test (c == mark) (Decides-eqb c mark) other) text free
  where
    by_test : {c : ℕ} (b : Bool) → Decides b (c ≡ mark) → c ≢ mark → b ≡ false
    by_test true decides other = absurd (other (decides.0 refl))
    by_test false decides other = refl

-- the parts of a text
parts_have : (mark : ℕ) (text : List ℕ) → All (HasNo mark) (parts_at mark text)
parts_have mark [] = All-cons (HasNo mark) [] [] (All-nil (λ c. c ≢ mark)) (All-nil (HasNo mark))
parts_have mark (c ∷ text) = by_test (c == mark) (Decides-eqb c mark) (parts_have mark text)
  where
    onto : c ≢ mark → (parts : List (List ℕ)) → All (HasNo mark) parts → All (HasNo mark) (onto_first c parts)
    onto other [] all = All-cons (HasNo mark) (c ∷ []) [] (no_head mark c [] other (All-nil (λ c. c ≢ mark))) (All-nil (HasNo mark))
    onto other (part ∷ parts) all =
        All-cons (HasNo mark) (c ∷ part) parts (no_head mark c part other (All-head (HasNo mark) part parts all)) (All-tail (HasNo mark) part parts all)

    by_test : (b : Bool) → Decides b (c ≡ mark) → All (HasNo mark) (parts_at mark text) → All (HasNo mark) (if b then [] ∷ parts_at mark text else onto_first c (parts_at mark text))
    by_test true decides all = All-cons (HasNo mark) [] (parts_at mark text) (All-nil (λ c. c ≢ mark)) all
    by_test false decides all = onto (λ e. false≢true (decides.1 e)) (parts_at mark text) all

-- ---- spaces

spaces_first : (text : List ℕ) → (spaces : List ℕ) × AreSpaces spaces × (text ≡ spaces ++ skip_spaces text)
spaces_first [] = ([], All-nil (λ c. c ≡ 32), refl)
spaces_first (c ∷ text) = by_test (c == 32) (Decides-eqb c 32) (spaces_first text)
  where
    by_test : (b : Bool) → Decides b (c ≡ 32) → (spaces : List ℕ) × AreSpaces spaces × (text ≡ spaces ++ skip_spaces text)
        → (spaces : List ℕ) × AreSpaces spaces × (c ∷ text ≡ spaces ++ (if b then skip_spaces text else c ∷ text))
    by_test true decides rest = (c ∷ rest.0, All-cons (λ c. c ≡ 32) c rest.0 (decides.0 refl) rest.1, ap (λ t. c ∷ t) rest.2)
    by_test false decides rest = ([], All-nil (λ c. c ≡ 32), refl)

-- a part that doesn't begin with a space
abbrev IsUnspaced : List ℕ → Type 0
IsUnspaced part = skip_spaces part ≡ part

spaces_skipped : (spaces part : List ℕ) → AreSpaces spaces → IsUnspaced part → skip_spaces (spaces ++ part) ≡ part
spaces_skipped [] part are un = un
spaces_skipped (c ∷ spaces) part are un =
    let space : c ≡ 32 = All-head (λ c. c ≡ 32) c spaces are in
    let test = (Decides-eqb c 32).1 space in
    rw test (spaces_skipped spaces part (All-tail (λ c. c ≡ 32) c spaces are) un)

no_in_spaces : (spaces : List ℕ) → AreSpaces spaces → HasNo 44 spaces
no_in_spaces spaces are = All-weaker (λ c. c ≡ 32) (λ c. c ≢ 44) (λ c is other. let bad : 32 ≡ 44 = sym is ∙ other in omega (arith, bad)) spaces are

no_skipped : (text : List ℕ) → HasNo 44 text → HasNo 44 (skip_spaces text)
no_skipped text free = let s = spaces_first text in no_right 44 s.0 (skip_spaces text) (subst (HasNo 44) s.2 free)

-- ---- joined parts

joined_by : (part : List ℕ) (parts : List (List ℕ)) → AreJoined (map skip_spaces (part ∷ parts)) (join_with_byte 44 (part ∷ parts))
joined_by part [] = let s = spaces_first part in (s.0, s.1, s.2)
joined_by part (next ∷ parts) =
    let s = spaces_first part in
    (s.0, join_with_byte 44 (next ∷ parts), s.1, ap (λ t. t ++ 44 ∷ join_with_byte 44 (next ∷ parts)) s.2 ∙ append_assoc s.0 (skip_spaces part) (44 ∷ join_with_byte 44 (next ∷ parts)), joined_by next parts)

some_parts : (mark : ℕ) (text : List ℕ) → (part : List ℕ) × (parts : List (List ℕ)) × (parts_at mark text ≡ part ∷ parts)
some_parts mark [] = ([], [], refl)
some_parts mark (c ∷ text) = by_test (c == mark) (some_parts mark text)
  where
    by_test : (b : Bool) → (part : List ℕ) × (parts : List (List ℕ)) × (parts_at mark text ≡ part ∷ parts)
        → (part : List ℕ) × (parts : List (List ℕ)) × ((if b then [] ∷ parts_at mark text else onto_first c (parts_at mark text)) ≡ part ∷ parts)
    by_test true rest = ([], parts_at mark text, refl)
    by_test false rest = (c ∷ rest.0, rest.1, ap (onto_first c) rest.2)

joined_parts : (text : List ℕ) → AreJoined (map skip_spaces (parts_at 44 text)) text
joined_parts text =
    let some = some_parts 44 text in
    subst (AreJoined (map skip_spaces (parts_at 44 text))) (join_with_byte-slice_split 44 text)
    (subst (λ parts. AreJoined (map skip_spaces parts) (join_with_byte 44 parts)) (sym some.2) (joined_by some.0 some.1))

split_joined : (parts : List (List ℕ)) (text : List ℕ) → AreJoined parts text → All (HasNo 44) parts → All IsUnspaced parts → map skip_spaces (parts_at 44 text) ≡ parts
split_joined [] text joined free un = absurd joined
split_joined (part ∷ []) text joined free un =
    let spaces = joined.0 in
    let none = no_byte 44 (spaces ++ part) (All-append (λ c. c ≢ 44) spaces part (no_in_spaces spaces joined.1) (All-head (HasNo 44) part [] free)) in
    ap (λ t. map skip_spaces (parts_at 44 t)) joined.2 ∙ ap (map skip_spaces) (slice_split_none (is_byte 44) (spaces ++ part) none)
    ∙ ap (λ t. t ∷ []) (spaces_skipped spaces part joined.1 (All-head IsUnspaced part [] un))
split_joined (part ∷ next ∷ parts) text joined free un =
    let spaces = joined.0 in
    let rest = joined.1 in
    let none = no_byte 44 (spaces ++ part) (All-append (λ c. c ≢ 44) spaces part (no_in_spaces spaces joined.2) (All-head (HasNo 44) part (next ∷ parts) free)) in
    ap (λ t. map skip_spaces (parts_at 44 t)) (joined.3 ∙ sym (append_assoc spaces part (44 ∷ rest)))
    ∙ ap (map skip_spaces) (slice_split_at (is_byte 44) (spaces ++ part) 44 rest none refl)
    ∙ ap₂ (λ t ts. t ∷ ts) (spaces_skipped spaces part joined.2 (All-head IsUnspaced part (next ∷ parts) un))
    (split_joined (next ∷ parts) rest joined.4 (All-tail (HasNo 44) part (next ∷ parts) free) (All-tail IsUnspaced part (next ∷ parts) un))

-- ---- three parts in any order

-- each part has one of these
data InOrder {X : Type 0} (a b c : X) : List X → Type 0 where
  abc : InOrder a b c (a ∷ b ∷ c ∷ [])
  acb : InOrder a b c (a ∷ c ∷ b ∷ [])
  bac : InOrder a b c (b ∷ a ∷ c ∷ [])
  bca : InOrder a b c (b ∷ c ∷ a ∷ [])
  cab : InOrder a b c (c ∷ a ∷ b ∷ [])
  cba : InOrder a b c (c ∷ b ∷ a ∷ [])

one_of_three : {X : Type 0} (p q r x : X) → Contains (p ∷ q ∷ r ∷ []) x → (p ≡ x) ⊎ ((q ≡ x) ⊎ (r ≡ x))
one_of_three p q r x (zero, within, is) = inl is
one_of_three p q r x (suc zero, within, is) = inr (inl is)
one_of_three p q r x (suc (suc zero), within, is) = inr (inr is)
one_of_three p q r x (suc (suc (suc k)), within, is) = absurd (omega (arith, within))

module _ {X : Type 0} (a b c : X) (ab : a ≢ b) (ac : a ≢ c) (bc : b ≢ c) where
  ordered : (p q r : X) → (p ≡ a) ⊎ ((q ≡ a) ⊎ (r ≡ a)) → (p ≡ b) ⊎ ((q ≡ b) ⊎ (r ≡ b)) → (p ≡ c) ⊎ ((q ≡ c) ⊎ (r ≡ c)) → InOrder a b c (p ∷ q ∷ r ∷ [])
  ordered p q r (inl ea) (inl eb) (inl ec) = absurd (ab (sym ea ∙ eb))
  ordered p q r (inl ea) (inl eb) (inr (inl ec)) = absurd (ab (sym ea ∙ eb))
  ordered p q r (inl ea) (inl eb) (inr (inr ec)) = absurd (ab (sym ea ∙ eb))
  ordered p q r (inl ea) (inr (inl eb)) (inl ec) = absurd (ac (sym ea ∙ ec))
  ordered p q r (inl ea) (inr (inl eb)) (inr (inl ec)) = absurd (bc (sym eb ∙ ec))
  ordered p q r (inl ea) (inr (inl eb)) (inr (inr ec)) = subst (InOrder a b c) (ap₂ (λ x xs. x ∷ xs) (sym ea) (ap₂ (λ x xs. x ∷ xs) (sym eb) (ap (λ x. x ∷ []) (sym ec)))) abc
  ordered p q r (inl ea) (inr (inr eb)) (inl ec) = absurd (ac (sym ea ∙ ec))
  ordered p q r (inl ea) (inr (inr eb)) (inr (inl ec)) = subst (InOrder a b c) (ap₂ (λ x xs. x ∷ xs) (sym ea) (ap₂ (λ x xs. x ∷ xs) (sym ec) (ap (λ x. x ∷ []) (sym eb)))) acb
  ordered p q r (inl ea) (inr (inr eb)) (inr (inr ec)) = absurd (bc (sym eb ∙ ec))
  ordered p q r (inr (inl ea)) (inl eb) (inl ec) = absurd (bc (sym eb ∙ ec))
  ordered p q r (inr (inl ea)) (inl eb) (inr (inl ec)) = absurd (ac (sym ea ∙ ec))
  ordered p q r (inr (inl ea)) (inl eb) (inr (inr ec)) = subst (InOrder a b c) (ap₂ (λ x xs. x ∷ xs) (sym eb) (ap₂ (λ x xs. x ∷ xs) (sym ea) (ap (λ x. x ∷ []) (sym ec)))) bac
  ordered p q r (inr (inl ea)) (inr (inl eb)) (inl ec) = absurd (ab (sym ea ∙ eb))
  ordered p q r (inr (inl ea)) (inr (inl eb)) (inr (inl ec)) = absurd (ab (sym ea ∙ eb))
  ordered p q r (inr (inl ea)) (inr (inl eb)) (inr (inr ec)) = absurd (ab (sym ea ∙ eb))
  ordered p q r (inr (inl ea)) (inr (inr eb)) (inl ec) = subst (InOrder a b c) (ap₂ (λ x xs. x ∷ xs) (sym ec) (ap₂ (λ x xs. x ∷ xs) (sym ea) (ap (λ x. x ∷ []) (sym eb)))) cab
  ordered p q r (inr (inl ea)) (inr (inr eb)) (inr (inl ec)) = absurd (ac (sym ea ∙ ec))
  ordered p q r (inr (inl ea)) (inr (inr eb)) (inr (inr ec)) = absurd (bc (sym eb ∙ ec))
  ordered p q r (inr (inr ea)) (inl eb) (inl ec) = absurd (bc (sym eb ∙ ec))
  ordered p q r (inr (inr ea)) (inl eb) (inr (inl ec)) = subst (InOrder a b c) (ap₂ (λ x xs. x ∷ xs) (sym eb) (ap₂ (λ x xs. x ∷ xs) (sym ec) (ap (λ x. x ∷ []) (sym ea)))) bca
  ordered p q r (inr (inr ea)) (inl eb) (inr (inr ec)) = absurd (ac (sym ea ∙ ec))
  ordered p q r (inr (inr ea)) (inr (inl eb)) (inl ec) = subst (InOrder a b c) (ap₂ (λ x xs. x ∷ xs) (sym ec) (ap₂ (λ x xs. x ∷ xs) (sym eb) (ap (λ x. x ∷ []) (sym ea)))) cba
  ordered p q r (inr (inr ea)) (inr (inl eb)) (inr (inl ec)) = absurd (bc (sym eb ∙ ec))
  ordered p q r (inr (inr ea)) (inr (inl eb)) (inr (inr ec)) = absurd (ac (sym ea ∙ ec))
  ordered p q r (inr (inr ea)) (inr (inr eb)) (inl ec) = absurd (ab (sym ea ∙ eb))
  ordered p q r (inr (inr ea)) (inr (inr eb)) (inr (inl ec)) = absurd (ab (sym ea ∙ eb))
  ordered p q r (inr (inr ea)) (inr (inr eb)) (inr (inr ec)) = absurd (ab (sym ea ∙ eb))

  in_order : (parts : List X) → length parts ≡ 3 → Contains parts a → Contains parts b → Contains parts c → InOrder a b c parts
  in_order [] three hasa hasb hasc = absurd (omega (arith, three))
  in_order (p ∷ []) three hasa hasb hasc = absurd (omega (arith, three))
  in_order (p ∷ q ∷ []) three hasa hasb hasc = absurd (omega (arith, three))
  in_order (p ∷ q ∷ r ∷ []) three hasa hasb hasc = ordered p q r (one_of_three p q r a hasa) (one_of_three p q r b hasb) (one_of_three p q r c hasc)
  in_order (p ∷ q ∷ r ∷ s ∷ parts) three hasa hasb hasc = absurd (omega (arith, three))

all_three : {X : Type 0} (P : X → Type 0) (a b c : X) (parts : List X) → P a → P b → P c → InOrder a b c parts → All P parts
all_three P a b c _ pa pb pc abc = All-cons P a (b ∷ c ∷ []) pa (All-cons P b (c ∷ []) pb (All-cons P c [] pc (All-nil P)))
all_three P a b c _ pa pb pc acb = All-cons P a (c ∷ b ∷ []) pa (All-cons P c (b ∷ []) pc (All-cons P b [] pb (All-nil P)))
all_three P a b c _ pa pb pc bac = All-cons P b (a ∷ c ∷ []) pb (All-cons P a (c ∷ []) pa (All-cons P c [] pc (All-nil P)))
all_three P a b c _ pa pb pc bca = All-cons P b (c ∷ a ∷ []) pb (All-cons P c (a ∷ []) pc (All-cons P a [] pa (All-nil P)))
all_three P a b c _ pa pb pc cab = All-cons P c (a ∷ b ∷ []) pc (All-cons P a (b ∷ []) pa (All-cons P b [] pb (All-nil P)))
all_three P a b c _ pa pb pc cba = All-cons P c (b ∷ a ∷ []) pc (All-cons P b (a ∷ []) pb (All-cons P a [] pa (All-nil P)))

-- ---- the one part of a key

module _ (f : List ℕ → Option (List ℕ)) (a b c t : List ℕ) where
  first_only : f a ≡ Some t → f b ≡ None → f c ≡ None → (parts : List (List ℕ)) → InOrder a b c parts → only (present (map f parts)) ≡ Some t
  first_only ea eb ec _ abc = rw (ea, eb, ec) refl
  first_only ea eb ec _ acb = rw (ea, eb, ec) refl
  first_only ea eb ec _ bac = rw (ea, eb, ec) refl
  first_only ea eb ec _ bca = rw (ea, eb, ec) refl
  first_only ea eb ec _ cab = rw (ea, eb, ec) refl
  first_only ea eb ec _ cba = rw (ea, eb, ec) refl

  second_only : f a ≡ None → f b ≡ Some t → f c ≡ None → (parts : List (List ℕ)) → InOrder a b c parts → only (present (map f parts)) ≡ Some t
  second_only ea eb ec _ abc = rw (ea, eb, ec) refl
  second_only ea eb ec _ acb = rw (ea, eb, ec) refl
  second_only ea eb ec _ bac = rw (ea, eb, ec) refl
  second_only ea eb ec _ bca = rw (ea, eb, ec) refl
  second_only ea eb ec _ cab = rw (ea, eb, ec) refl
  second_only ea eb ec _ cba = rw (ea, eb, ec) refl

  third_only : f a ≡ None → f b ≡ None → f c ≡ Some t → (parts : List (List ℕ)) → InOrder a b c parts → only (present (map f parts)) ≡ Some t
  third_only ea eb ec _ abc = rw (ea, eb, ec) refl
  third_only ea eb ec _ acb = rw (ea, eb, ec) refl
  third_only ea eb ec _ bac = rw (ea, eb, ec) refl
  third_only ea eb ec _ bca = rw (ea, eb, ec) refl
  third_only ea eb ec _ cab = rw (ea, eb, ec) refl
  third_only ea eb ec _ cba = rw (ea, eb, ec) refl

only_read : (xs : List (List ℕ)) (t : List ℕ) → only xs ≡ Some t → xs ≡ t ∷ []
only_read [] t e = cc
only_read (x ∷ []) t e = let same : x ≡ t = cc in ap (λ y. y ∷ []) same
only_read (x ∷ y ∷ more) t e = cc

present_one : (f : List ℕ → Option (List ℕ)) (parts : List (List ℕ)) (t : List ℕ) → present (map f parts) ≡ t ∷ [] → (part : List ℕ) × Contains parts part × (f part ≡ Some t)
present_one f [] t e = cc
present_one f (part ∷ parts) t e = by_value (f part) refl (present_one f parts t) e
  where
    further : (other : List ℕ) × Contains parts other × (f other ≡ Some t) → (other : List ℕ) × Contains (part ∷ parts) other × (f other ≡ Some t)
    further (other, (k, within, is), found) = (other, (suc k, omega arith, is), found)

    by_value : (o : Option (List ℕ)) → f part ≡ o → (present (map f parts) ≡ t ∷ [] → (other : List ℕ) × Contains parts other × (f other ≡ Some t)) → present (o ∷ map f parts) ≡ t ∷ []
        → (other : List ℕ) × Contains (part ∷ parts) other × (f other ≡ Some t)
    by_value None is rest e = further (rest e)
    by_value (Some u) is rest e = let same : u ≡ t = cc in (part, (zero, omega arith, refl), is ∙ ap Some same)

part_read : (key : List ℕ) (parts : List (List ℕ)) (t : List ℕ) → part_of key parts ≡ Some t → Contains parts (key ++ t)
part_read key parts t e =
    let found = present_one (after_front key) parts t (only_read (present (map (after_front key) parts)) t e) in
    subst (Contains parts) (front_read key found.0 t found.2) found.1

-- ---- the credential

abbrev scope_text : List ℕ → List ℕ → List ℕ → List ℕ
scope_text id date region = id ++ 47 ∷ (date ++ 47 ∷ (region ++ codes "/kms/aws4_request"))

record IsScope (text : List ℕ) (scope : Scope) : Type 0 where
  is : text ≡ scope_text scope.id scope.date scope.region
  id : HasNo 47 scope.id
  date : HasNo 47 scope.date
  region : HasNo 47 scope.region

some_if_read : {A P : Type 0} (b : Bool) (x y : A) → Decides b P → some_if b x ≡ Some y → (x ≡ y) × P
some_if_read true x y decides e = let same : x ≡ y = cc in (same, decides.0 refl)
some_if_read false x y decides e = let bad : None ≡ Some y = e in cc

scope_by : (text : List ℕ) (scope : Scope) (parts : List (List ℕ)) → join_with_byte 47 parts ≡ text → All (HasNo 47) parts → scope_in parts ≡ Some scope → IsScope text scope
scope_by text scope [] e free read = cc
scope_by text scope (id ∷ []) e free read = cc
scope_by text scope (id ∷ date ∷ []) e free read = cc
scope_by text scope (id ∷ date ∷ region ∷ []) e free read = cc
scope_by text scope (id ∷ date ∷ region ∷ service ∷ []) e free read = cc
scope_by text scope (id ∷ date ∷ region ∷ service ∷ end ∷ []) e free read =
    let mine : Scope = record { id = id; date = date; region = region } in
    let h = some_if_read (bytes_eq service (codes "kms") && bytes_eq end (codes "aws4_request")) mine scope (Decides-and _ _ (bytes_eq-Decides service (codes "kms")) (bytes_eq-Decides end (codes "aws4_request"))) read in
    let whole = ap₂ (λ s t. id ++ 47 ∷ (date ++ 47 ∷ (region ++ 47 ∷ (s ++ 47 ∷ t)))) h.1.0 h.1.1 in
    let two = All-tail (HasNo 47) id (date ∷ region ∷ service ∷ end ∷ []) free in
    let three = All-tail (HasNo 47) date (region ∷ service ∷ end ∷ []) two in
    subst (IsScope text) h.0 (record {
      is = sym e ∙ whole;
      id = All-head (HasNo 47) id (date ∷ region ∷ service ∷ end ∷ []) free;
      date = All-head (HasNo 47) date (region ∷ service ∷ end ∷ []) two;
      region = All-head (HasNo 47) region (service ∷ end ∷ []) three;
    })
scope_by text scope (id ∷ date ∷ region ∷ service ∷ end ∷ other ∷ more) e free read = cc

scope_read : (text : List ℕ) (scope : Scope) → scope_of text ≡ Some scope → IsScope text scope
scope_read text scope read = scope_by text scope (parts_at 47 text) (join_with_byte-slice_split 47 text) (parts_have 47 text) read

scope_taken : (id date region : List ℕ) → HasNo 47 id → HasNo 47 date → HasNo 47 region → scope_of (scope_text id date region) ≡ Some (record { id = id; date = date; region = region })
scope_taken id date region idfree datefree regionfree =
    let third = slice_split_at (is_byte 47) region 47 (codes "kms/aws4_request") (no_byte 47 region regionfree) refl in
    let second = slice_split_at (is_byte 47) date 47 (region ++ codes "/kms/aws4_request") (no_byte 47 date datefree) refl ∙ ap (λ ps. date ∷ ps) third in
    let first = slice_split_at (is_byte 47) id 47 (date ++ 47 ∷ (region ++ codes "/kms/aws4_request")) (no_byte 47 id idfree) refl ∙ ap (λ ps. id ∷ ps) second in
    ap scope_in first

-- ---- the signature

passes : (p : ℕ → Bool) (text : List ℕ) → Decides (list_all p text) (AllPass p text)
passes p text = Decides-by_and p (λ x. p x ≡ true) (list_all p) (λ x. (λ e. e, λ e. e)) refl (λ _ _. refl) text

signature_decides : (text : List ℕ) → Decides (is_signature text) ((length text ≡ 64) × AllPass is_lower_hex_digit text)
signature_decides text = Decides-and _ _ (Decides-eqb (length text) 64) (passes is_lower_hex_digit text)

-- ---- claims

then_read : {A B : Type 0} (f : A → Option B) (o : Option A) (y : B) → option_and_then f o ≡ Some y → (x : A) × (o ≡ Some x) × (f x ≡ Some y)
then_read f None y e = let bad : None ≡ Some y = e in cc
then_read f (Some x) y e = (x, refl, e)

record AreFrom (scope : Option Scope) (names signature : Option (List ℕ)) (claims : Claims) : Type 0 where
  scope_is : scope ≡ Some (record { id = claims.id; date = claims.date; region = claims.region })
  names_are : names ≡ Some claims.names
  signature_is : signature ≡ Some claims.signature

from_read : (scope : Option Scope) (names signature : Option (List ℕ)) (claims : Claims) → claims_from scope names signature ≡ Some claims → AreFrom scope names signature claims
from_read None names signature claims e = cc
from_read (Some scope) None signature claims e = cc
from_read (Some scope) (Some names) None claims e = cc
from_read (Some scope) (Some names) (Some signature) claims e =
    let mine : Claims = record { id = scope.id; date = scope.date; region = scope.region; names = names; signature = signature } in
    let same : mine ≡ claims = cc in
    subst (AreFrom (Some scope) (Some names) (Some signature)) same (record { scope_is = refl; names_are = refl; signature_is = refl })

if_read : {A P : Type 0} (b : Bool) (o : Option A) (x : A) → Decides b P → (if b then o else None) ≡ Some x → P × (o ≡ Some x)
if_read true o x decides e = (decides.0 refl, e)
if_read false o x decides e = let bad : None ≡ Some x = e in cc

no_skipped_all : (parts : List (List ℕ)) → All (HasNo 44) parts → All (HasNo 44) (map skip_spaces parts)
no_skipped_all [] free = All-nil (HasNo 44)
no_skipped_all (part ∷ parts) free =
    All-cons (HasNo 44) (skip_spaces part) (map skip_spaces parts) (no_skipped part (All-head (HasNo 44) part parts free)) (no_skipped_all parts (All-tail (HasNo 44) part parts free))

module _ (value : List ℕ) (claims : Claims) where
  header_read : claims_of value ≡ Some claims → IsAuthorization value claims
  header_read e =
      let behind = then_read claims_behind (after_front (codes "AWS4-HMAC-SHA256 ") value) claims e in
      let text = behind.0 in
      let parts = map skip_spaces (parts_at 44 text) in
      let three = if_read (length parts == 3) (claims_from (option_and_then scope_of (part_of (codes "Credential=") parts)) (part_of (codes "SignedHeaders=") parts) (option_and_then signature_in (part_of (codes "Signature=") parts))) claims (Decides-eqb (length parts) 3) behind.2 in
      let from = from_read (option_and_then scope_of (part_of (codes "Credential=") parts)) (part_of (codes "SignedHeaders=") parts) (option_and_then signature_in (part_of (codes "Signature=") parts)) claims three.1 in
      let scope = then_read scope_of (part_of (codes "Credential=") parts) (record { id = claims.id; date = claims.date; region = claims.region }) from.scope_is in
      let is = scope_read scope.0 (record { id = claims.id; date = claims.date; region = claims.region }) scope.2 in
      let written = then_read signature_in (part_of (codes "Signature=") parts) claims.signature from.signature_is in
      let digits = some_if_read (is_signature written.0) written.0 claims.signature (signature_decides written.0) written.2 in
      let credential = subst (λ t. Contains parts (codes "Credential=" ++ t)) is.is (part_read (codes "Credential=") parts scope.0 scope.1) in
      let names = part_read (codes "SignedHeaders=") parts claims.names from.names_are in
      let signature = subst (λ t. Contains parts (codes "Signature=" ++ t)) digits.0 (part_read (codes "Signature=") parts written.0 written.1) in
      let free = no_skipped_all (parts_at 44 text) (parts_have 44 text) in
      let whole = no_right 44 (codes "Credential=") (scope_text claims.id claims.date claims.region) (All-contains (HasNo 44) parts (credential_part claims) free credential) in
      let behind_id = All-tail (λ c. c ≢ 44) 47 _ (no_right 44 claims.id (47 ∷ (claims.date ++ 47 ∷ (claims.region ++ codes "/kms/aws4_request"))) whole) in
      let behind_date = All-tail (λ c. c ≢ 44) 47 _ (no_right 44 claims.date (47 ∷ (claims.region ++ codes "/kms/aws4_request")) behind_id) in
      record {
        text = text;
        parts = parts;
        algorithm = front_read (codes "AWS4-HMAC-SHA256 ") value text behind.1;
        joined = joined_parts text;
        three = three.0;
        credential = credential;
        names = names;
        signature = signature;
        proper = record {
          id = (no_left 44 claims.id (47 ∷ (claims.date ++ 47 ∷ (claims.region ++ codes "/kms/aws4_request"))) whole, is.id);
          date = (no_left 44 claims.date (47 ∷ (claims.region ++ codes "/kms/aws4_request")) behind_id, is.date);
          region = (no_left 44 claims.region (codes "/kms/aws4_request") behind_date, is.region);
          names = no_right 44 (codes "SignedHeaders=") claims.names (All-contains (HasNo 44) parts (names_part claims) free names);
          signature = subst (λ t. (length t ≡ 64) × AllPass is_lower_hex_digit t) digits.0 digits.1;
        };
      }

-- ---- and the other way round

digit_no_comma : (c : ℕ) → is_lower_hex_digit c ≡ true → c ≢ 44
digit_no_comma c is other = let bad : false ≡ true = ap is_lower_hex_digit (sym other) ∙ is in cc

literal_free : (text : List ℕ) → list_all (λ c. not (c == 44)) text ≡ true → HasNo 44 text
literal_free text e = All-weaker (λ c. not (c == 44) ≡ true) (λ c. c ≢ 44) (λ c is other. let there = (Decides-eqb c 44).1 other in let bad : not true ≡ true = sym (ap not there) ∙ is in cc) text ((passes (λ c. not (c == 44)) text).0 e)

module _ (value : List ℕ) (claims : Claims) (is : IsAuthorization value claims) where
  abbrev a : List ℕ
  a = credential_part claims

  abbrev b : List ℕ
  b = names_part claims

  abbrev c : List ℕ
  c = signature_part claims

  order : InOrder a b c is.parts
  order =
      in_order a b c (other_front (codes "Credential=") (scope_text claims.id claims.date claims.region) b refl) (other_front (codes "Credential=") (scope_text claims.id claims.date claims.region) c refl)
      (other_front (codes "SignedHeaders=") claims.names c refl) is.parts is.three is.credential is.names is.signature

  slash : (text : List ℕ) → HasNo 44 text → HasNo 44 (47 ∷ text)
  slash text free = no_head 44 47 text (λ e. let bad : 47 ≡ 44 = e in omega (arith, bad)) free

  free_a : HasNo 44 a
  free_a =
      All-append (λ c. c ≢ 44) (codes "Credential=") (scope_text claims.id claims.date claims.region) (literal_free (codes "Credential=") refl)
      (All-append (λ c. c ≢ 44) claims.id _ is.proper.id.0 (slash _
      (All-append (λ c. c ≢ 44) claims.date _ is.proper.date.0 (slash _
      (All-append (λ c. c ≢ 44) claims.region _ is.proper.region.0 (literal_free (codes "/kms/aws4_request") refl))))))

  free_b : HasNo 44 b
  free_b = All-append (λ c. c ≢ 44) (codes "SignedHeaders=") claims.names (literal_free (codes "SignedHeaders=") refl) is.proper.names

  free_c : HasNo 44 c
  free_c =
      All-append (λ c. c ≢ 44) (codes "Signature=") claims.signature (literal_free (codes "Signature=") refl)
      (All-weaker (λ c. is_lower_hex_digit c ≡ true) (λ c. c ≢ 44) digit_no_comma claims.signature is.proper.signature.1)

  parts_are : map skip_spaces (parts_at 44 is.text) ≡ is.parts
  parts_are = split_joined is.parts is.text is.joined (all_three (HasNo 44) a b c is.parts free_a free_b free_c order) (all_three IsUnspaced a b c is.parts refl refl refl order)

  scope_is : option_and_then scope_of (part_of (codes "Credential=") is.parts) ≡ Some (record { id = claims.id; date = claims.date; region = claims.region })
  scope_is =
      ap (option_and_then scope_of) (first_only (after_front (codes "Credential=")) a b c (scope_text claims.id claims.date claims.region) (front_taken (codes "Credential=") (scope_text claims.id claims.date claims.region)) refl refl is.parts order)
      ∙ scope_taken claims.id claims.date claims.region is.proper.id.1 is.proper.date.1 is.proper.region.1

  names_are : part_of (codes "SignedHeaders=") is.parts ≡ Some claims.names
  names_are = second_only (after_front (codes "SignedHeaders=")) a b c claims.names refl (front_taken (codes "SignedHeaders=") claims.names) refl is.parts order

  signature_is : option_and_then signature_in (part_of (codes "Signature=") is.parts) ≡ Some claims.signature
  signature_is =
      ap (option_and_then signature_in) (third_only (after_front (codes "Signature=")) a b c claims.signature refl refl (front_taken (codes "Signature=") claims.signature) is.parts order)
      ∙ ap (λ b. some_if b claims.signature) ((signature_decides claims.signature).1 is.proper.signature)

  claims_are : claims_in is.parts ≡ Some claims
  claims_are =
      let test = (Decides-eqb (length is.parts) 3).1 is.three in
      let scope = scope_is in
      let names = names_are in
      let signature = signature_is in
      rw (test, scope, names, signature) refl

  header_taken : claims_of value ≡ Some claims
  header_taken =
      ap (λ v. option_and_then claims_behind (after_front (codes "AWS4-HMAC-SHA256 ") v)) is.algorithm
      ∙ ap (option_and_then claims_behind) (front_taken (codes "AWS4-HMAC-SHA256 ") is.text)
      ∙ ap claims_in parts_are ∙ claims_are

pub authorization_of_reads : AuthorizationOfReads
authorization_of_reads value claims = (
  (header_read value claims, header_taken value claims),
  λ other is also. let e : Some claims ≡ Some other = sym (header_taken value claims is) ∙ header_taken value other also in cc,
)
