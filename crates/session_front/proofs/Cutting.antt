-- Cuts of one stream into messages.
use Rattle.std.proofs.Common.{◌≡◌, ◌+◌, ◌<◌, ◌⊎◌, inl, inr, ℕ, List, [], ◌∷◌, ◌++◌, length, Bool, true, false, zero, suc, refl, sym, ap, ap₂, subst, ◌∙◌, length-append, append_assoc, ◌||◌, ◌==◌, arith}
use Rattle.httparse.specs.Grammar.{NeverHasRequest}
use Rattle.http_front.specs.declared.judge.HttpFault.{HttpFault}
use Rattle.http_front.specs.Offsets.{Offsets}
use Rattle.http_front.specs.Message.{Message, IsMessage, IsOpen, IsRefused, IsCrowded, CutsOff}
use Rattle.http_front.specs.Laws.{HasMessage}
use Rattle.http_front.proofs.Answering.{same_message, one_answer_lem, empty_awaited}
use Rattle.session_front.specs.Items.{Item, whole, fault, Cuts, nothing, message, no_message, closes_at}

-- more bytes go to the rest
pub cuts_more : {stream rest : List ℕ} {items : List Item} (bytes : List ℕ) → Cuts stream false items rest → Cuts (stream ++ bytes) false items (rest ++ bytes)
cuts_more bytes nothing = nothing
cuts_more bytes (message {items} {rest} {text} {more} {m} cuts split is closes) =
    message (cuts_more bytes cuts) (ap (λ all. all ++ bytes) split ∙ append_assoc text more bytes) is closes

-- whether the reply to a message closes
pub message_closes : {buffer : List ℕ} {cut : Offsets} {closes : Bool} (m : Message) (number : ℕ) → closes ≡ (cut.closes || (number + 1 == 100000)) → CutsOff buffer cut m → closes ≡ closes_at number (whole m)
message_closes m number is cuts = is ∙ ap (λ (b : Bool). b || (number + 1 == 100000)) cuts.closes

-- bytes that begin with a message, and are the same as others, are not refused
pub not_both : {m : Message} {text rest last : List ℕ} {why : HttpFault} (more : List ℕ) → IsMessage m text → rest ≡ text ++ more → last ≡ rest → IsRefused last why → ⊥
not_both {m} {text} {rest} {last} {why} more is split same refused = (one_answer_lem last).not_message_and_refused why (m, text, more, is, same ∙ split) refused

-- two cuts into messages
pub one_cut_open : {stream : List ℕ} {items others : List Item} {rest last : List ℕ} → Cuts stream false items rest → Cuts stream false others last → length items ≡ length others → (items ≡ others) × (rest ≡ last)
one_cut_open nothing nothing h = (refl, refl)
one_cut_open nothing (message {items} c s is cl) h = absurd (omega (arith, simp length-append at h))
one_cut_open (message {items} c s is cl) nothing h = absurd (omega (arith, simp length-append at h))
one_cut_open (message {items} {rest} {text} {more} {m} c s is cl) (message {items = items'} {rest = rest'} {text = text'} {more = more'} {m = m'} c' s' is' cl') h =
    let both = one_cut_open c c' (omega (arith, simp length-append at h)) in
    let same = same_message m m' text text' more more' is is' (sym s ∙ both.1 ∙ s') in
    (ap (λ (front : List Item). front ++ whole m ∷ []) both.0 ∙ ap (λ (n : Message). items' ++ whole n ∷ []) same.0, same.2)

-- bytes that are open and go on all the same
abbrev pub IsUndecided : List ℕ → Type 0
IsUndecided rest = NeverHasRequest rest ⊎ IsCrowded rest

-- what stands in a cut before an item of it: a message, or at the end of a cut that closes a fault
abbrev pub GoesOnFrom : Bool → List ℕ → Type 0
GoesOnFrom closes rest = HasMessage rest ⊎ ((closes ≡ true) × ((why : HttpFault) × IsRefused rest why))

pub stuck : (closes : Bool) (rest : List ℕ) → IsOpen rest → GoesOnFrom closes rest → IsUndecided rest
stuck closes rest o (inl h) = absurd ((one_answer_lem rest).not_message_and_open h o)
stuck closes rest o (inr h) = (one_answer_lem rest).open_and_refused h.1.0 o h.1.1

pub stuck_open : (rest : List ℕ) → IsOpen rest → GoesOnFrom false rest → ⊥
stuck_open rest o (inl h) = (one_answer_lem rest).not_message_and_open h o
stuck_open rest o (inr h) = let bad : false ≡ true = h.0 in cc

-- no bytes are open
pub nothing_open : IsOpen []
nothing_open = (1, empty_awaited)

pub record Before (stream : List ℕ) (closes : Bool) (n : ℕ) : Type 0 where
  pub items : List Item
  pub rest : List ℕ
  pub cuts : Cuts stream false items rest
  pub number : length items ≡ n
  pub next : GoesOnFrom closes rest

goes_anyhow : (closes : Bool) (rest : List ℕ) → GoesOnFrom false rest → GoesOnFrom closes rest
goes_anyhow closes rest (inl h) = inl h
goes_anyhow closes rest (inr h) = let bad : false ≡ true = h.0 in cc

before_anyhow : {stream : List ℕ} {n : ℕ} (closes : Bool) → Before stream false n → Before stream closes n
before_anyhow closes b = record { items = b.items; rest = b.rest; cuts = b.cuts; number = b.number; next = goes_anyhow closes b.rest b.next }

pub compared : (a b : ℕ) → (a < b) ⊎ ((a ≡ b) ⊎ (b < a))
compared zero zero = inr (inl refl)
compared zero (suc b) = inl (omega arith)
compared (suc a) zero = inr (inr (omega arith))
compared (suc a) (suc b) = elim (compared a b) as (λ _. (suc a < suc b) ⊎ ((suc a ≡ suc b) ⊎ (suc b < suc a))) [
  | inl l ↦ inl (omega (arith, l))
  | inr h ↦ elim h as (λ _. (suc a < suc b) ⊎ ((suc a ≡ suc b) ⊎ (suc b < suc a))) [ inl e ↦ inr (inl (ap suc e)) | inr g ↦ inr (inr (omega (arith, g))) ]
]

pub split : (a b : ℕ) → b < a + 1 → (b ≡ a) ⊎ (b < a)
split a b h = elim (compared b a) as (λ _. (b ≡ a) ⊎ (b < a)) [
  | inl l ↦ inr l
  | inr k ↦ elim k as (λ _. (b ≡ a) ⊎ (b < a)) [ inl e ↦ inl e | inr g ↦ absurd (omega (arith, h, g)) ]
]

pub before_open : {stream rest : List ℕ} {items : List Item} → Cuts stream false items rest → (n : ℕ) → n < length items → Before stream false n
before_open nothing n h = absurd (omega (arith, h))
before_open {stream = stream} (message {items} {rest} {text} {more} {m} cuts e is cl) n h =
    let near : n < length items + 1 = subst (λ (k : ℕ). n < k) (length-append items (whole m ∷ [])) h in
    elim (split (length items) n near) as (λ _. Before stream false n) [
      | inl same ↦ record { items = items; rest = rest; cuts = cuts; number = sym same; next = inl (m, text, more, is, e) }
      | inr less ↦ before_open cuts n less
    ]

pub before : {stream rest : List ℕ} {closes : Bool} {items : List Item} → Cuts stream closes items rest → (n : ℕ) → n < length items → Before stream closes n
before nothing n h = absurd (omega (arith, h))
before {stream = stream} {closes = closes} (message {items} {rest} {text} {more} {m} cuts e is cl) n h =
    let near : n < length items + 1 = subst (λ (k : ℕ). n < k) (length-append items (whole m ∷ [])) h in
    elim (split (length items) n near) as (λ _. Before stream closes n) [
      | inl same ↦ record { items = items; rest = rest; cuts = cuts; number = sym same; next = inl (m, text, more, is, e) }
      | inr less ↦ before_anyhow closes (before_open cuts n less)
    ]
before {stream = stream} (no_message {items} {rest} why cuts refused) n h =
    let near : n < length items + 1 = subst (λ (k : ℕ). n < k) (length-append items (fault why ∷ [])) h in
    elim (split (length items) n near) as (λ _. Before stream true n) [
      | inl same ↦ record { items = items; rest = rest; cuts = cuts; number = sym same; next = inr (refl, (why, refused)) }
      | inr less ↦ before_anyhow true (before_open cuts n less)
    ]

-- two cuts into as many items close alike
pub one_close : {stream rest last : List ℕ} {closes other : Bool} {items others : List Item} → Cuts stream closes items rest → Cuts stream other others last → length items ≡ length others → closes ≡ other
one_close nothing nothing h = refl
one_close nothing (message {items} c s is cl) h = absurd (omega (arith, simp length-append at h))
one_close nothing (no_message {items} why c n) h = absurd (omega (arith, simp length-append at h))
one_close (message {items} c s is cl) nothing h = absurd (omega (arith, simp length-append at h))
one_close (no_message {items} why c n) nothing h = absurd (omega (arith, simp length-append at h))
one_close (message {items} {rest} {text} {more} {m} c s is cl) (message {items = items'} {rest = rest'} {text = text'} {more = more'} {m = m'} c' s' is' cl') h =
    let same : length items ≡ length items' = omega (arith, simp length-append at h) in
    let both = one_cut_open c c' same in
    let messages : m ≡ m' = (same_message m m' text text' more more' is is' (sym s ∙ both.1 ∙ s')).0 in
    cl ∙ ap₂ (λ (n : ℕ) (m : Message). closes_at n (whole m)) same messages ∙ sym cl'
one_close (message {items} {more = more} c s is cl) (no_message {items = items'} why' c' n') h =
    let both = one_cut_open c c' (omega (arith, simp length-append at h)) in
    absurd (not_both more is s (sym both.1) n')
one_close (no_message {items} why c n) (message {items = items'} {more = more'} c' s' is' cl') h =
    let both = one_cut_open c c' (omega (arith, simp length-append at h)) in
    absurd (not_both more' is' s' both.1 n)
one_close (no_message {items} why c n) (no_message {items = items'} why' c' n') h = refl

-- where a cut is open no other goes on from there without closing
pub no_longer_cut : {stream rest last : List ℕ} {items others : List Item} → Cuts stream false items rest → Cuts stream false others last → IsOpen last → length others < length items → ⊥
no_longer_cut {last = last} {others = others} c d o h =
    let b = before_open c (length others) h in
    let same = one_cut_open b.cuts d b.number in
    stuck_open last o (subst (GoesOnFrom false) same.1 b.next)

-- a cut that closes and one that is open are of one stream only where the open rest may be refused too
pub closed_or_open : {stream rest last : List ℕ} {items others : List Item} → Cuts stream true items rest → Cuts stream false others last → IsOpen last → IsUndecided last
closed_or_open {last = last} {items = items} {others = others} c d o =
    elim (compared (length others) (length items)) as (λ _. IsUndecided last) [
      | inl less ↦
          let b = before c (length others) less in
          let same = one_cut_open b.cuts d b.number in
          stuck true last o (subst (GoesOnFrom true) same.1 b.next)
      | inr k ↦ elim k as (λ _. IsUndecided last) [
        | inl same ↦ let bad : true ≡ false = one_close c d (sym same) in cc
        | inr more ↦ let b = before_open d (length items) more in let bad : true ≡ false = one_close c b.cuts (sym b.number) in cc
      ]
    ]

-- two open cuts leave the same rest
pub one_rest : {stream rest last : List ℕ} {items others : List Item} → Cuts stream false items rest → Cuts stream false others last → IsOpen rest → IsOpen last → rest ≡ last
one_rest {rest = rest} {last = last} {items = items} {others = others} c d s t =
    elim (compared (length items) (length others)) as (λ _. rest ≡ last) [
      | inl less ↦ absurd (no_longer_cut d c s less)
      | inr k ↦ elim k as (λ _. rest ≡ last) [
        | inl same ↦ (one_cut_open c d same).1
        | inr more ↦ absurd (no_longer_cut c d t more)
      ]
    ]
