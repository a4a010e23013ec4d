-- Each message is answered.
use Rattle.std.proofs.Common.{◌≡◌, ◌+◌, ◌<◌, ◌⊎◌, inl, inr, ℕ, List, [], ◌∷◌, ◌++◌, length, Bool, true, false, Option, None, Some, refl, sym, ap, subst, ◌∙◌, append_assoc, append-nil, length-append, arith}
use Rattle.std.specs.Prelude.{IfSome}
use Rattle.std.proofs.lemmas.List.{take-append-le}
use Rattle.httparse.specs.Grammar.{HasNoRequest}
use Rattle.http_front.specs.declared.judge.HttpFault.{HttpFault}
use Rattle.http_front.specs.declared.judge.HttpFault.TheVariants.{TooLong}
use Rattle.http_front.specs.Message.{Message, HasHead, IsMessage, IsOpen, IsRefused, hopeless, long_head, crowded, at_fault}
use Rattle.http_front.specs.Laws.{HasMessage}
use Rattle.http_front.proofs.Answering.{head_on, same_message, one_answer_lem, empty_decided}
use Rattle.kms_io.specs.Wire.{with_first}
use Rattle.session_front.specs.Items.{Item, whole, Cuts, nothing, message, no_message}
use Rattle.session_front.specs.declared.ends.SessionEnd.{SessionEnd}
use Rattle.session_front.specs.declared.ends.SessionEnd.TheVariants.{Ended, Closed, CutOff, ReadFault, WriteFault, NoMemory}
use Rattle.session_front.specs.Runs.{Run}
use Rattle.session_front.specs.Session.{Outside, Serves, EndsBy}
use Rattle.session_front.specs.Complete.{AnswersEach, end_of, IsComplete, IsMadeOf, no_message_yet, one_message_more, IsAsked}
use Rattle.session_front.proofs.Cutting.{cuts_more, one_cut_open, GoesOnFrom, before, before_open, compared, split, stuck, stuck_open, nothing_open, one_close, no_longer_cut, closed_or_open, one_rest}

-- ---- messages as a cut

cut_of : {stream rest : List ℕ} {closes : Bool} {items : List Item} → IsMadeOf stream closes items rest → Cuts stream closes items rest
cut_of no_message_yet = nothing
cut_of (one_message_more made e is cl) = message (cut_of made) e is cl

-- what stands before a message
record MadeBefore (stream : List ℕ) (n : ℕ) : Type 0 where
  items : List Item
  rest : List ℕ
  made : IsMadeOf stream false items rest
  number : length items ≡ n
  next : HasMessage rest

made_before_open : {stream rest : List ℕ} {items : List Item} → IsMadeOf stream false items rest → (n : ℕ) → n < length items → MadeBefore stream n
made_before_open no_message_yet n h = absurd (omega (arith, h))
made_before_open {stream = stream} (one_message_more {items} {rest} {text} {more} {m} made e is cl) n h =
    let near : n < length items + 1 = subst (λ (k : ℕ). n < k) (length-append items (whole m ∷ [])) h in
    elim (split (length items) n near) as (λ _. MadeBefore stream n) [
      | inl same ↦ record { items = items; rest = rest; made = made; number = sym same; next = (m, text, more, is, e) }
      | inr less ↦ made_before_open made n less
    ]

made_before : {stream rest : List ℕ} {closes : Bool} {items : List Item} → IsMadeOf stream closes items rest → (n : ℕ) → n < length items → MadeBefore stream n
made_before no_message_yet n h = absurd (omega (arith, h))
made_before {stream = stream} (one_message_more {items} {rest} {text} {more} {m} made e is cl) n h =
    let near : n < length items + 1 = subst (λ (k : ℕ). n < k) (length-append items (whole m ∷ [])) h in
    elim (split (length items) n near) as (λ _. MadeBefore stream n) [
      | inl same ↦ record { items = items; rest = rest; made = made; number = sym same; next = (m, text, more, is, e) }
      | inr less ↦ made_before_open made n less
    ]

-- ---- more bytes

head_there : {bytes : List ℕ} {m : Message} {text : List ℕ} (rest : List ℕ) (is : IsMessage m text) → bytes ≡ text ++ rest → HasHead bytes is.head (m.body ++ rest)
head_there {m = m} rest is e = subst (λ (all : List ℕ). HasHead all is.head (m.body ++ rest)) (sym e) (head_on rest is.has)

-- bytes that are refused begin with no message, however they go on
refused_on : {bytes : List ℕ} {why : HttpFault} (more : List ℕ) → IsRefused bytes why → HasMessage (bytes ++ more) → ⊥
refused_on more (hopeless never) (m, text, rest, is, e) = never more is.head (m.body ++ rest) (head_there rest is e).reads
refused_on more (crowded c) (m, text, rest, is, e) =
    let here = head_there rest is e in
    absurd (omega (arith, c.overflows more is.head (m.body ++ rest) here.reads, here.few))
refused_on {bytes = bytes} more (long_head l) h =
    (one_answer_lem (bytes ++ more)).not_message_and_refused TooLong h (long_head (record {
      many = omega (arith, l.many, length-append bytes more);
      none = subst HasNoRequest (sym (take-append-le 16384 bytes more l.many)) l.none;
    }))
refused_on {bytes = bytes} {why = why} more (at_fault has wrong) h = (one_answer_lem (bytes ++ more)).not_message_and_refused why h (at_fault (head_on more has) wrong)

-- ---- the ends

-- a session that took all and ended between two messages
pub ended : (input : List ℕ) (closes : Bool) (items others : List Item) → IsAsked input closes items → Cuts input false others [] → (closes ≡ false) × (items ≡ others)
ended input true items others asked c = absurd (empty_decided (closed_or_open (cut_of asked.made) c nothing_open))
ended input false items others asked c =
    let a : Cuts input false items [] = subst (λ (rest : List ℕ). Cuts input false items rest) (asked.all refl) (cut_of asked.made) in
    elim (compared (length items) (length others)) as (λ _. (false ≡ false) × (items ≡ others)) [
      | inl less ↦ absurd (no_longer_cut c a nothing_open less)
      | inr k ↦ elim k as (λ _. (false ≡ false) × (items ≡ others)) [
        | inl same ↦ (refl, (one_cut_open a c same).0)
        | inr more ↦ absurd (no_longer_cut a c nothing_open more)
      ]
    ]

-- no session that took all ends inside a message
pub not_inside : (input : List ℕ) (closes : Bool) (items others : List Item) (rest : List ℕ) → IsAsked input closes items → Cuts input false others rest → IsOpen rest → 0 < length rest → ⊥
not_inside input false items others rest asked c awaits some =
    let a : Cuts input false items [] = subst (λ (end : List ℕ). Cuts input false items end) (asked.all refl) (cut_of asked.made) in
    let rests : rest ≡ [] = one_rest c a awaits nothing_open in
    omega (arith, some, ap length rests)
not_inside input true items others rest asked c awaits some =
    elim (compared (length others) (length items)) as (λ _. ⊥) [
      | inl less ↦
          let b = made_before asked.made (length others) less in
          let same = one_cut_open (cut_of b.made) c b.number in
          (one_answer_lem rest).not_message_and_open (subst HasMessage same.1 b.next) awaits
      | inr k ↦ elim k as (λ _. ⊥) [
        | inl same ↦ let bad : true ≡ false = one_close (cut_of asked.made) c (sym same) in cc
        | inr more ↦ let b = before_open c (length items) more in let bad : true ≡ false = one_close (cut_of asked.made) b.cuts (sym b.number) in cc
      ]
    ]

nothing_before : (front behind : List ℕ) → front ++ behind ≡ [] → front ≡ []
nothing_before [] behind e = refl
nothing_before (x ∷ front) behind e = absurd (omega (arith, ap length e))

-- a cut that goes as far as the messages, or further, stands where nothing is refused
no_further : (input left : List ℕ) (closes : Bool) (items fronts : List Item) (rest : List ℕ) (why : HttpFault) → IsAsked input closes items → Cuts input false fronts (rest ++ left) → IsRefused rest why
    → (length fronts ≡ length items) ⊎ (length items < length fronts) → ⊥
no_further input left true items fronts rest why asked f refused (inl same) = let bad : true ≡ false = one_close (cut_of asked.made) f (sym same) in cc
no_further input left true items fronts rest why asked f refused (inr more) =
    let b = before_open f (length items) more in
    let bad : true ≡ false = one_close (cut_of asked.made) b.cuts (sym b.number) in
    cc
no_further input left false items fronts rest why asked f refused (inl same) =
    let a : Cuts input false items [] = subst (λ (end : List ℕ). Cuts input false items end) (asked.all refl) (cut_of asked.made) in
    let none : rest ++ left ≡ [] = (one_cut_open f a same).1 in
    let here : IsRefused [] why = subst (λ (bytes : List ℕ). IsRefused bytes why) (nothing_before rest left none) refused in
    empty_decided ((one_answer_lem []).open_and_refused why nothing_open here)
no_further input left false items fronts rest why asked f refused (inr more) =
    let a : Cuts input false items [] = subst (λ (end : List ℕ). Cuts input false items end) (asked.all refl) (cut_of asked.made) in
    let b = before_open f (length items) more in
    let none = (one_cut_open b.cuts a b.number).1 in
    stuck_open [] nothing_open (subst (GoesOnFrom false) none b.next)

-- nothing that was taken is refused
no_fault : (taken left : List ℕ) (closes : Bool) (items fronts : List Item) (rest : List ℕ) (why : HttpFault) → IsAsked (taken ++ left) closes items → Cuts taken false fronts rest → IsRefused rest why → ⊥
no_fault taken left closes items fronts rest why asked c refused =
    let f : Cuts (taken ++ left) false fronts (rest ++ left) = cuts_more left c in
    elim (compared (length fronts) (length items)) as (λ _. ⊥) [
      | inl less ↦
          let b = made_before asked.made (length fronts) less in
          let same = one_cut_open (cut_of b.made) f b.number in
          refused_on left refused (subst HasMessage same.1 b.next)
      | inr k ↦ no_further (taken ++ left) left closes items fronts rest why asked f refused k
    ]

-- two cuts into as many items, both up to a message that closes
same_closing : {input at text : List ℕ} (more : List ℕ) {fronts : List Item} {m : Message} → Cuts input false fronts at → at ≡ text ++ more → IsMessage m text
    → {items : List Item} {rest : List ℕ} → IsMadeOf input true items rest → length items ≡ length fronts + 1 → items ≡ fronts ++ whole m ∷ []
same_closing {text = text} more {fronts = fronts} {m = m} c e is (one_message_more {items = ms} {text = text'} {more = more'} {m = n} made e' is' cl') h =
    let same : length ms ≡ length fronts = omega (arith, h, length-append ms (whole n ∷ [])) in
    let both = one_cut_open (cut_of made) c same in
    let messages : n ≡ m = (same_message n m text' text more' more is' is (sym e' ∙ both.1 ∙ e)).0 in
    ap (λ (front : List Item). front ++ whole n ∷ []) both.0 ∙ ap (λ (x : Message). fronts ++ whole x ∷ []) messages

-- a session that a message closed
by_message : (input : List ℕ) (closes : Bool) (items fronts : List Item) (more : List ℕ) {at text : List ℕ} {m : Message} → IsAsked input closes items → Cuts input false fronts at → at ≡ text ++ more → IsMessage m text
    → Cuts input true (fronts ++ whole m ∷ []) more → (length fronts + 1 < length items) ⊎ ((length fronts + 1 ≡ length items) ⊎ (length items < length fronts + 1))
    → (closes ≡ true) × (items ≡ fronts ++ whole m ∷ [])
by_message input closes items fronts more {m = m} asked c e is f (inl less) =
    let b = made_before asked.made (length fronts + 1) less in
    let bad : true ≡ false = one_close f (cut_of b.made) (length-append fronts (whole m ∷ []) ∙ sym b.number) in
    cc
by_message input true items fronts more asked c e is f (inr (inl same)) = (refl, same_closing more c e is asked.made (sym same))
by_message input false items fronts more {m = m} asked c e is f (inr (inl same)) =
    let bad : true ≡ false = one_close f (cut_of asked.made) (length-append fronts (whole m ∷ []) ∙ same) in
    cc
by_message input true items fronts more {m = m} asked c e is f (inr (inr further)) =
    let b = before f (length items) (subst (λ (k : ℕ). length items < k) (sym (length-append fronts (whole m ∷ []))) further) in
    let bad : true ≡ false = one_close (cut_of asked.made) b.cuts (sym b.number) in
    cc
by_message input false items fronts more {m = m} asked c e is f (inr (inr further)) =
    let a : Cuts input false items [] = subst (λ (end : List ℕ). Cuts input false items end) (asked.all refl) (cut_of asked.made) in
    let b = before f (length items) (subst (λ (k : ℕ). length items < k) (sym (length-append fronts (whole m ∷ []))) further) in
    let none = (one_cut_open b.cuts a b.number).1 in
    absurd (empty_decided (stuck true [] nothing_open (subst (GoesOnFrom true) none b.next)))

pub closed : (taken left : List ℕ) (closes : Bool) (items others : List Item) (rest : List ℕ) → IsAsked (taken ++ left) closes items → Cuts taken true others rest → (closes ≡ true) × (items ≡ others)
closed taken left closes items others rest asked (message {items = fronts} {text = text} {more = more} {m = m} c e is cl) =
    let on = ap (λ (bytes : List ℕ). bytes ++ left) e ∙ append_assoc text more left in
    let f = message (cuts_more left c) on is cl in
    by_message (taken ++ left) closes items fronts (more ++ left) asked (cuts_more left c) on is f (compared (length fronts + 1) (length items))
closed taken left closes items others rest asked (no_message {items = fronts} {rest = at} why c refused) = absurd (no_fault taken left closes items fronts at why asked c refused)

-- ---- what the link gives

pub record Front (told : Option (List ℕ)) (input first : List ℕ) : Type 0 where
  pub left : List ℕ
  pub tells : told ≡ Some left
  pub joined : input ≡ first ++ left

pub front_of : (told : Option (List ℕ)) (input first : List ℕ) → Some input ≡ with_first first told → Front told input first
front_of None input first e = absurd (cc e)
front_of (Some left) input first e = record { left = left; tells = refl; joined = cc }

-- where nothing is left, all was taken
pub all_taken : {told : Option (List ℕ)} {input first : List ℕ} (f : Front told input first) → IfSome told (λ left. left ≡ []) → first ≡ input
all_taken {first = first} f end =
    let none : f.left ≡ [] = subst (λ (t : Option (List ℕ)). IfSome t (λ left. left ≡ [])) f.tells end in
    sym (f.joined ∙ ap (λ (l : List ℕ). first ++ l) none ∙ append-nil first)

answers_each : {S : Type 0} (Step : S → Item → ℕ → Bool → List ℕ → S → Type 0) (old new : Outside S) (closes : Bool) (count : ℕ) (rest : List ℕ) (items : List Item) (s : Serves Step old new closes count rest) → items ≡ s.items → AnswersEach Step items old new
answers_each Step old new closes count rest items s same = record {
  clocks = s.clocks;
  text = s.text;
  run = subst (λ (all : List Item). Run Step old.state new.state all s.clocks s.text) (sym same) s.run;
  written = s.written;
}

pub each_is_answered : {S : Type 0} (Step : S → Item → ℕ → Bool → List ℕ → S → Type 0) (Wants : Type 0) (end : SessionEnd) (old new : Outside S) → EndsBy Step Wants end old new → IsComplete Step Wants end old new
each_is_answered Step Wants Ended old new ends input closes items calm asked =
    let f = front_of new.wire.left input ends.serves.input (sym calm.gives ∙ ends.serves.left) in
    let all : ends.serves.input ≡ input = all_taken f ends.at_end in
    let both = ended input closes items ends.serves.items asked (subst (λ (bytes : List ℕ). Cuts bytes false ends.serves.items []) all ends.serves.cuts) in
    inr (sym (ap end_of both.0), answers_each Step old new false ends.count [] items ends.serves both.1)
each_is_answered Step Wants Closed old new ends input closes items calm asked =
    let f = front_of new.wire.left input ends.serves.input (sym calm.gives ∙ ends.serves.left) in
    let both = closed ends.serves.input f.left closes items ends.serves.items ends.rest (subst (λ (bytes : List ℕ). IsAsked bytes closes items) f.joined asked) ends.serves.cuts in
    inr (sym (ap end_of both.0), answers_each Step old new true ends.count ends.rest items ends.serves both.1)
each_is_answered Step Wants CutOff old new ends input closes items calm asked =
    let f = front_of new.wire.left input ends.serves.input (sym calm.gives ∙ ends.serves.left) in
    let all : ends.serves.input ≡ input = all_taken f ends.at_end in
    absurd (not_inside input closes items ends.serves.items ends.rest asked (subst (λ (bytes : List ℕ). Cuts bytes false ends.serves.items ends.rest) all ends.serves.cuts) ends.awaits ends.some)
each_is_answered Step Wants ReadFault old new ends input closes items calm asked = absurd (calm.reads ends.rose)
each_is_answered Step Wants WriteFault old new ends input closes items calm asked = absurd (calm.writes ends.rose)
each_is_answered Step Wants NoMemory old new ends input closes items calm asked = inl (refl, ends)
