-- What a keeper that was told one more entry has kept.
use Rattle.std.proofs.Common.{◌≡◌, ◌⊎◌, inl, inr, ◌≤◌, ◌<◌, ◌+◌, ℕ, zero, suc, List, [], ◌∷◌, ◌++◌, length, length-append, append-nil, append_assoc, take, drop, Bool, true, false, refl, sym, ap, ◌∙◌, subst, arith}
use Rattle.std.proofs.lemmas.List.{take-append-le, take-append-drop}
use mathlib.Core.List.{IsPrefix}
use Rattle.account_rows.specs.declared.entries.Entry.{Entry}
use Rattle.keepers.specs.Keeping.{LeavesAlso, IsWithOrWithout, Holds, KeptFrom, EachKept, IsBetween, IsOneMore, IsLeft, IsKept}

module _ {K : Type 0} (moment : K → ℕ) (left_since : K → ℕ → List ℕ → Type 0) where
  -- nothing was asked of it
  pub leaves_same : (k : K) (P : List ℕ → Type 0) → LeavesAlso moment left_since k k P
  leaves_same k P = record { later = omega arith; also = λ t file le was. inl was }

  pub leaves_on : (a b c : K) (P Q : List ℕ → Type 0) → LeavesAlso moment left_since a b P → LeavesAlso moment left_since b c Q → ((file : List ℕ) → P file → Q file) → LeavesAlso moment left_since a c Q
  leaves_on a b c P Q p q so = record {
    later = omega (arith, p.later, q.later);
    also = λ t file le was. elim (q.also t file (omega (arith, le, p.later)) was) as (λ _. left_since a t file ⊎ Q file) [
      | inl before ↦ elim (p.also t file le before) as (λ _. left_since a t file ⊎ Q file) [ inl first ↦ inl first | inr has ↦ inr (so file has) ]
      | inr has ↦ inr has
    ];
  }

  pub leaves_shut : (old k shut : K) (P : List ℕ → Type 0) → LeavesAlso moment left_since old k P → moment shut ≡ moment k → ((t : ℕ) (file : List ℕ) → left_since shut t file → left_since k t file)
      → LeavesAlso moment left_since old shut P
  leaves_shut old k shut P leaves same lost = record { later = omega (arith, leaves.later, same); also = λ t file le was. leaves.also t file le (lost t file was) }

  -- what was kept stays kept
  stays_kept : (reads : List ℕ → List Entry → Type 0) (old new : K) (history : List Entry) (P : List ℕ → Type 0) → LeavesAlso moment left_since old new P → ((file : List ℕ) → P file → Holds reads history file)
      → KeptFrom moment left_since reads old history → KeptFrom moment left_since reads new history
  stays_kept reads old new history P leaves so kept = record {
    since = kept.since;
    passed = omega (arith, kept.passed, leaves.later);
    each = λ file was. elim (leaves.also kept.since file kept.passed was) as (λ _. Holds reads history file) [ inl before ↦ kept.each file before | inr has ↦ so file has ];
  }

-- ---- a history that one entry joins

prefix_self : (xs : List Entry) → IsPrefix xs xs
prefix_self xs = ([], append-nil xs)

prefix_on : (xs ys zs : List Entry) → IsPrefix xs ys → IsPrefix xs (ys ++ zs)
prefix_on xs ys zs (rest, joined) = (rest ++ zs, sym (append_assoc xs rest zs) ∙ ap (λ (all : List Entry). all ++ zs) joined)

prefix_taken : (n : ℕ) (xs : List Entry) → IsPrefix (take n xs) xs
prefix_taken n xs = (drop n xs, take-append-drop n xs)

same_head : {x y : Entry} {xs ys : List Entry} → x ∷ xs ≡ y ∷ ys → x ≡ y
same_head is = cc

same_tail : {x y : Entry} {xs ys : List Entry} → x ∷ xs ≡ y ∷ ys → xs ≡ ys
same_tail is = cc

no_front : (front rest : List Entry) → front ++ rest ≡ [] → front ≡ []
no_front [] rest is = refl
no_front (x ∷ front) rest is = cc

longer_by : {x y : Entry} {xs ys : List Entry} → x ≡ y → xs ≡ ys → x ∷ xs ≡ y ∷ ys
longer_by one more = cc

-- what begins a history that one entry joined begins the history, or is all of that
prefix_last : (left history : List Entry) (entry : Entry) → IsPrefix left (history ++ entry ∷ []) → IsPrefix left history ⊎ (left ≡ history ++ entry ∷ [])
prefix_last [] history entry is = inl (history, refl)
prefix_last (x ∷ left) [] entry (rest, joined) = inr (longer_by (same_head joined) (no_front left rest (same_tail joined)))
prefix_last (x ∷ left) (y ∷ history) entry (rest, joined) =
    elim (prefix_last left history entry (rest, same_tail joined)) as (λ _. IsPrefix (x ∷ left) (y ∷ history) ⊎ (x ∷ left ≡ (y ∷ history) ++ entry ∷ [])) [
      | inl (more, is) ↦ inl (more, longer_by (same_head joined) is)
      | inr is ↦ inr (longer_by (same_head joined) is)
    ]

split : (n m : ℕ) → n ≤ m + 1 → (n ≤ m) ⊎ (n ≡ m + 1)
split zero m le = inl (omega arith)
split (suc n) zero le = inr (omega (arith, le))
split (suc n) (suc m) le = elim (split n m (omega (arith, le))) as (λ _. (suc n ≤ suc m) ⊎ (suc n ≡ suc m + 1)) [ inl l ↦ inl (omega (arith, l)) | inr e ↦ inr (omega (arith, e)) ]

module _ {K : Type 0} (tells : K → List Entry → Type 0) (is_open : K → Bool) (moment : K → ℕ) (left_since : K → ℕ → List ℕ → Type 0) (reads : List ℕ → List Entry → Type 0) (started loaded : ℕ)
    (history : List Entry) (entry : Entry) where
  abbrev Kept : K → List Entry → Type 0
  Kept k h = IsKept tells is_open moment left_since reads started loaded k h

  abbrev Each : K → List Entry → Type 0
  Each k h = EachKept moment left_since reads k h

  abbrev Only : K → Bool → List Entry → Type 0
  Only k opened h = (file : List ℕ) → left_since k started file → IsLeft reads opened loaded h file

  abbrev more : List Entry
  more = history ++ entry ∷ []

  -- what a crash may leave meanwhile
  abbrev May : K → K → Type 0
  May old new = LeavesAlso moment left_since old new (IsWithOrWithout reads history entry)

  -- so it is where the keeper was open
  abbrev MayIfOpen : K → K → Type 0
  MayIfOpen old new = is_open old ≡ true → (told : List Entry) → tells old told → LeavesAlso moment left_since old new (IsWithOrWithout reads told entry)

  holds_either : (n : ℕ) (file : List ℕ) → IsWithOrWithout reads history entry file → Holds reads (take n history) file
  holds_either n file (inl is) = record { history = history; read = is; from = prefix_taken n history }
  holds_either n file (inr is) = record { history = more; read = is; from = prefix_on (take n history) history (entry ∷ []) (prefix_taken n history) }

  each_stays : (old new : K) → May old new → Each old history → Each new history
  each_stays old new may all n le = stays_kept moment left_since reads old new (take n history) (IsWithOrWithout reads history entry) may (holds_either n) (all n le)

  -- one more entry was kept
  each_more : (old new : K) → May old new → ((file : List ℕ) → left_since new (moment new) file → reads file more) → Each old history → Each new more
  each_more old new may durable all n le =
      elim (split n (length history) (omega (arith, le, length-append history (entry ∷ [])))) as (λ _. KeptFrom moment left_since reads new (take n more)) [
        | inl less ↦ subst (KeptFrom moment left_since reads new) (sym (take-append-le n history (entry ∷ []) less)) (each_stays old new may all n less)
        | inr last ↦ record {
          since = moment new;
          passed = omega arith;
          each = λ file was. record { history = more; read = durable file was; from = prefix_taken n more };
        }
      ]

  -- what a file was read as stays between the loaded entries and the history with one more
  between_more : loaded ≤ length history → (file : List ℕ) → IsBetween reads (take loaded history) history file → IsBetween reads (take loaded more) more file
  between_more le file is = record {
    history = is.history;
    read = is.read;
    from = subst (λ (first : List Entry). IsPrefix first is.history) (sym (take-append-le loaded history (entry ∷ []) le)) is.from;
    to = prefix_on is.history history (entry ∷ []) is.to;
  }

  either_more : loaded ≤ length history → (file : List ℕ) → IsWithOrWithout reads history entry file → IsBetween reads (take loaded more) more file
  either_more le file (inl is) = between_more le file (record { history = history; read = is; from = prefix_taken loaded history; to = prefix_self history })
  either_more le file (inr is) = record { history = more; read = is; from = prefix_taken loaded more; to = prefix_self more }

  open_left : (opened : Bool) (file : List ℕ) → opened ≡ true → IsLeft reads opened loaded history file → IsBetween reads (take loaded history) history file
  open_left opened file is (inl between) = between
  open_left opened file is (inr (shut, one)) = let bad : true ≡ false = sym is ∙ shut in cc

  only_more : (old new : K) → loaded ≤ length history → Kept old history → is_open old ≡ true → May old new → (opened : Bool) → Only new opened more
  only_more old new le kept opened may now file was = inl (elim (may.also started file kept.later was) as (λ _. IsBetween reads (take loaded more) more file) [
    | inl before ↦ between_more le file (open_left (is_open old) file opened (kept.only file before))
    | inr either ↦ either_more le file either
  ])

  pub kept_more : (old new : K) → loaded ≤ length history → Kept old history → is_open old ≡ true → ((told : List Entry) → tells old told → tells new (told ++ entry ∷ []))
      → ((told : List Entry) → tells new told → (file : List ℕ) → left_since new (moment new) file → reads file told) → MayIfOpen old new → Kept new more
  kept_more old new le kept opened is durable may =
      let told = kept.whole opened in
      let tells_more = is history told in
      let leaves = may opened history told in
      record {
        whole = λ _. tells_more;
        each = each_more old new leaves (durable more tells_more) kept.each;
        later = omega (arith, kept.later, leaves.later);
        only = only_more old new le kept opened leaves (is_open new);
      }

  -- it wasn't, or it isn't known whether it was
  only_shut : (old new : K) → Kept old history → is_open old ≡ true → May old new → Only new false history
  only_shut old new kept opened may file was = elim (may.also started file kept.later was) as (λ _. IsLeft reads false loaded history file) [
    | inl before ↦ inl (open_left (is_open old) file opened (kept.only file before))
    | inr (inl without) ↦ inl (record { history = history; read = without; from = prefix_taken loaded history; to = prefix_self history })
    | inr (inr with_it) ↦ inr (refl, record { entry = entry; read = with_it })
  ]

  shut_now : (old new : K) → Kept old history → is_open old ≡ true → is_open new ≡ false → MayIfOpen old new → Kept new history
  shut_now old new kept opened closed may =
      let leaves = may opened history (kept.whole opened) in
      record {
        whole = λ opened. let bad : true ≡ false = sym opened ∙ closed in cc;
        each = each_stays old new leaves kept.each;
        later = omega (arith, kept.later, leaves.later);
        only = subst (λ (b : Bool). Only new b history) (sym closed) (only_shut old new kept opened leaves);
      }

  same_kept : (old new : K) → Kept old history → new ≡ old → Kept new history
  same_kept old new kept same = subst (λ (k : K). Kept k history) (sym same) kept

  no_more_where : (before after : Bool) (old new : K) → is_open old ≡ before → is_open new ≡ after → Kept old history → (is_open old ≡ false → new ≡ old) → (is_open new ≡ true → new ≡ old) → MayIfOpen old new → Kept new history
  no_more_where before true old new was is kept shut stays may = same_kept old new kept (stays is)
  no_more_where false false old new was is kept shut stays may = same_kept old new kept (shut was)
  no_more_where true false old new was is kept shut stays may = shut_now old new kept was is may

  pub kept_no_more : (old new : K) → Kept old history → (is_open old ≡ false → new ≡ old) → (is_open new ≡ true → new ≡ old) → MayIfOpen old new → Kept new history
  kept_no_more old new kept shut stays may = no_more_where (is_open old) (is_open new) old new refl refl kept shut stays may

  -- nothing more is kept, not even the entry that was kept last
  fewer : (k : K) → Each k more → Each k history
  fewer k all n le = subst (KeptFrom moment left_since reads k) (take-append-le n history (entry ∷ []) le) (all n (omega (arith, le, length-append history (entry ∷ []))))

  shut_each : (k shut : K) → moment shut ≡ moment k → ((t : ℕ) (file : List ℕ) → left_since shut t file → left_since k t file) → Each k history → Each shut history
  shut_each k shut same lost all n le =
      let kept = all n le in
      record { since = kept.since; passed = omega (arith, kept.passed, same); each = λ file was. kept.each file (lost kept.since file was) }

  one_less : loaded ≤ length history → (file : List ℕ) → IsBetween reads (take loaded more) more file → IsLeft reads false loaded history file
  one_less le file is = elim (prefix_last is.history history entry is.to) as (λ _. IsLeft reads false loaded history file) [
    | inl begins ↦ inl (record {
      history = is.history;
      read = is.read;
      from = subst (λ (first : List Entry). IsPrefix first is.history) (take-append-le loaded history (entry ∷ []) le) is.from;
      to = begins;
    })
    | inr all ↦ inr (refl, record { entry = entry; read = subst (reads file) all is.read })
  ]

  pub kept_until : (k shut : K) → loaded ≤ length history → Kept k more → is_open k ≡ true → is_open shut ≡ false → moment shut ≡ moment k → ((t : ℕ) (file : List ℕ) → left_since shut t file → left_since k t file) → Kept shut history
  kept_until k shut le kept opened closed same lost = record {
    whole = λ opened. let bad : true ≡ false = sym opened ∙ closed in cc;
    each = shut_each k shut same lost (fewer k kept.each);
    later = omega (arith, kept.later, same);
    only = subst (λ (b : Bool). Only shut b history) (sym closed) (λ file was. one_less le file (open_left_more (is_open k) file opened (kept.only file (lost started file was))));
  } where
    open_left_more : (opened : Bool) (file : List ℕ) → opened ≡ true → IsLeft reads opened loaded more file → IsBetween reads (take loaded more) more file
    open_left_more opened file is (inl between) = between
    open_left_more opened file is (inr (shut, one)) = let bad : true ≡ false = sym is ∙ shut in cc

  -- ---- what a crash may leave of it

  between_either : (file : List ℕ) → IsWithOrWithout reads history entry file → IsBetween reads history more file
  between_either file (inl is) = record { history = history; read = is; from = prefix_self history; to = prefix_on history history (entry ∷ []) (prefix_self history) }
  between_either file (inr is) = record { history = more; read = is; from = prefix_on history history (entry ∷ []) (prefix_self history); to = prefix_self more }

  between_where : (b : Bool) (old new : K) → is_open old ≡ b → Kept old history → (is_open old ≡ false → new ≡ old) → MayIfOpen old new → LeavesAlso moment left_since old new (IsBetween reads history more)
  between_where true old new is kept shut may =
      let leaves = may is history (kept.whole is) in
      record {
        later = leaves.later;
        also = λ t file le was. elim (leaves.also t file le was) as (λ _. left_since old t file ⊎ IsBetween reads history more file) [
          | inl before ↦ inl before
          | inr either ↦ inr (between_either file either)
        ];
      }
  between_where false old new is kept shut may =
      subst (λ (k : K). LeavesAlso moment left_since old k (IsBetween reads history more)) (sym (shut is)) (leaves_same moment left_since old (IsBetween reads history more))

  pub leaves_between : (old new : K) → Kept old history → (is_open old ≡ false → new ≡ old) → MayIfOpen old new → LeavesAlso moment left_since old new (IsBetween reads history more)
  leaves_between old new kept shut may = between_where (is_open old) old new refl kept shut may

-- what is kept at this moment, and nothing else is left from now on
pub kept_afresh : {K : Type 0} (tells : K → List Entry → Type 0) (is_open : K → Bool) (moment : K → ℕ) (left_since : K → ℕ → List ℕ → Type 0) (reads : List ℕ → List Entry → Type 0) (keeper : K) (history : List Entry)
    → tells keeper history → ((file : List ℕ) → left_since keeper (moment keeper) file → reads file history)
    → IsKept tells is_open moment left_since reads (moment keeper) (length history) keeper history
kept_afresh tells is_open moment left_since reads keeper history told durable = record {
  whole = λ _. told;
  each = λ n le. record { since = moment keeper; passed = omega arith; each = λ file was. record { history = history; read = durable file was; from = prefix_taken n history } };
  later = omega arith;
  only = λ file was. inl (record { history = history; read = durable file was; from = prefix_taken (length history) history; to = prefix_self history });
}
