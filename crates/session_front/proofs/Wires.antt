-- Reads and writes one after another.
use Rattle.std.proofs.Common.{◌≡◌, ◌+◌, ◌<◌, ◌≤◌, ℕ, List, [], ◌∷◌, ◌++◌, length, take, drop, Option, None, Some, refl, sym, ap, subst, ◌∙◌, append_assoc, append-nil, add-zero, add_assoc, arith}
use Rattle.std.proofs.Math.Seq.{take-append-add}
use Rattle.std.proofs.lemmas.List.{take-append-le, take-append-drop, drop-append-le}
use Rattle.std.proofs.Common.{length-take, length-drop, length-append}
use Rattle.kms_io.specs.Wire.{Wire, with_more, with_first, TellsMore, RoseBy}
use Rattle.kms_io.specs.Link.{Takes, Sends}
use Rattle.kms_io.specs.declared.link.Move.{Move}
use Rattle.kms_io.specs.declared.link.Move.TheVariants.{In, Out}
use Rattle.http_front.specs.Message.{IsOpen}
use Rattle.session_front.specs.Pace.{no_read, one_read, no_bytes, PutsOut, no_write, one_write}
use Rattle.session_front.specs.Sending.{SendsWhole, SendsShort}
use Rattle.session_front.specs.Inbox.{Receives, Gets, GetsNothing}

pub with_more-nil : {X : Type 0} (told : Option (List X)) → told ≡ with_more told []
with_more-nil None = refl
with_more-nil (Some all) = ap Some (sym (append-nil all))

pub with_first-nil : {X : Type 0} (told : Option (List X)) → told ≡ with_first [] told
with_first-nil None = refl
with_first-nil (Some all) = refl

pub with_more-append : {X : Type 0} (told : Option (List X)) (a b : List X) → with_more (with_more told a) b ≡ with_more told (a ++ b)
with_more-append None a b = refl
with_more-append (Some all) a b = ap Some (append_assoc all a b)

pub with_first-append : {X : Type 0} (a b : List X) (told : Option (List X)) → with_first a (with_first b told) ≡ with_first (a ++ b) told
with_first-append a b None = refl
with_first-append a b (Some all) = ap Some (sym (append_assoc a b all))

pub tells_nothing : (told : Option (List ℕ)) → TellsMore told [] told
tells_nothing None = tt
tells_nothing (Some all) = ap Some (append-nil all)

pub tells_on : (x y z : Option (List ℕ)) (a b : List ℕ) → TellsMore x a y → TellsMore y b z → TellsMore x (a ++ b) z
tells_on x y None a b h k = tt
tells_on x None (Some all) a b h k = cc
tells_on x (Some mid) (Some all) a b h k = sym (with_more-append x a b) ∙ ap (λ told. with_more told b) h ∙ k

pub takes_nothing : (wire : Wire) → Takes wire wire []
takes_nothing wire = record { taken = with_more-nil wire.taken; left = with_first-nil wire.left; faults = omega arith; written = refl; write_faults = refl }

pub takes_on : {x y z : Wire} {a b : List ℕ} → Takes x y a → Takes y z b → Takes x z (a ++ b)
takes_on {x} {y} {z} {a} {b} h k = record {
  taken = k.taken ∙ ap (λ told. with_more told b) h.taken ∙ with_more-append x.taken a b;
  left = h.left ∙ ap (with_first a) k.left ∙ with_first-append a b z.left;
  faults = omega arith;
  written = k.written ∙ h.written;
  write_faults = k.write_faults ∙ h.write_faults;
}

pub sends_nothing : (wire : Wire) → Sends wire wire []
sends_nothing wire = record { written = with_more-nil wire.written; faults = omega arith; taken = refl; left = refl; read_faults = refl }

pub sends_on : {x y z : Wire} {a b : List ℕ} → Sends x y a → Sends y z b → Sends x z (a ++ b)
sends_on {x} {y} {z} {a} {b} h k = record {
  written = k.written ∙ ap (λ told. with_more told b) h.written ∙ with_more-append x.written a b;
  faults = omega arith;
  taken = k.taken ∙ h.taken;
  left = k.left ∙ h.left;
  read_faults = k.read_faults ∙ h.read_faults;
}

pub receives_nothing : (wire : Wire) (buffer : List ℕ) → Receives wire buffer wire buffer
receives_nothing wire buffer = record { bytes = []; takes = takes_nothing wire; grows = sym (append-nil buffer); gathers = no_read }

-- one more read, at an open buffer
pub receives_on : {x y z : Wire} {p q r : List ℕ} {n : ℕ} → Receives x p y q → IsOpen q → Gets y q n z r → Receives x p z r
receives_on {x} {y} {z} {p} {q} {r} {n} h open_ k = record {
  bytes = h.bytes ++ k.piece;
  takes = takes_on h.takes k.takes;
  grows = k.grows ∙ ap (λ buffer. buffer ++ k.piece) h.grows ∙ append_assoc p h.bytes k.piece;
  gathers = one_read k.piece h.gathers (subst IsOpen h.grows open_) refl (subst (λ (m : ℕ). TellsMore y.moves (In m ∷ []) z.moves) (sym k.size) k.moves);
}

-- one more, which brought nothing
pub receives_none : {x y z : Wire} {p q r : List ℕ} → Receives x p y q → IsOpen q → GetsNothing y q z r → Receives x p z r
receives_none {x} {y} {z} {p} {q} {r} h open_ k = record {
  bytes = h.bytes;
  takes = subst (Takes x z) (append-nil h.bytes) (takes_on h.takes k.takes);
  grows = k.same ∙ h.grows;
  gathers = no_bytes h.gathers (subst IsOpen h.grows open_) k.moves;
}

-- a read that brought bytes makes the buffer longer
pub gets_more : {old new : Wire} {before after : List ℕ} {n : ℕ} → Gets old before n new after → length before < length after
gets_more {before = before} {after = after} h =
    let size : length after ≡ length before + length h.piece = ap length h.grows ∙ length-append before h.piece in
    omega (arith, h.size, h.some)

-- what a read brings stands behind what is left of the bytes before
pub behind : (start : ℕ) (before piece : List ℕ) → start ≤ length before → drop start (before ++ piece) ≡ drop start before ++ piece
behind start before piece fits = drop-append-le start before piece fits

-- ---- texts that are written whole

puts_on : {told mid new : Option (List Move)} {n m : ℕ} → PutsOut told n mid → PutsOut mid m new → PutsOut told (n + m) new
puts_on {told} {mid} {new} {n} h no_write = subst (λ (k : ℕ). PutsOut told k mid) (sym (add-zero n)) h
puts_on {told} {mid} {new} {n} {m} h (one_write {n = k} last more is shown) = one_write last (puts_on h more) (ap (λ (i : ℕ). n + i) is ∙ sym (add_assoc n k last)) shown

pub whole_nothing : (wire : Wire) → SendsWhole wire wire []
whole_nothing wire = record { sends = sends_nothing wire; out = no_write }

pub whole_on : {x y z : Wire} {a b : List ℕ} → SendsWhole x y a → SendsWhole y z b → SendsWhole x z (a ++ b)
whole_on {x} {y} {z} {a} {b} h k = record {
  sends = sends_on h.sends k.sends;
  out = subst (λ (n : ℕ). PutsOut x.moves n z.moves) (sym (length-append a b)) (puts_on h.out k.out);
}

-- one write
pub whole_piece : {old new : Wire} (n : ℕ) (piece : List ℕ) → n ≤ length piece → Sends old new (take n piece) → TellsMore old.moves (Out n ∷ []) new.moves → SendsWhole old new (take n piece)
whole_piece {old} {new} n piece fits sends shown = record {
  sends = sends;
  out = one_write n no_write (omega (arith, length-take n piece)) shown;
}

-- what a read into a part of a buffer leaves at its front
pub take_into : (at n : ℕ) (all room post : List ℕ) → at ≤ length all → n ≤ length room → take (at + n) (take at all ++ (room ++ post)) ≡ take at all ++ take n room
take_into at n all room post h k =
    let size : length (take at all) ≡ at = omega (arith, length-take {A = ℕ}) in
    subst (λ (m : ℕ). take (m + n) (take at all ++ (room ++ post)) ≡ take at all ++ take n room) size
    (take-append-add (take at all) (room ++ post) n ∙ ap (λ more. take at all ++ more) (take-append-le n room post k))

pub grown : (a b x : List ℕ) → a ≡ b ++ x → 0 < length x → length b < length a
grown a b x is some = omega (arith, simp length-append at (ap length is))

-- the link failed after the first bytes of the text
pub sends_short : {old wire new : Wire} (text : List ℕ) (at : ℕ) → at < length text → Sends old wire (take at text) → RoseBy 1 wire.write_faults new.write_faults → Sends wire new [] → SendsShort old new text
sends_short {old} {wire} {new} text at h sent rose last = record {
  front = take at text ++ [];
  cut = drop at text;
  split = sym (ap (λ (front : List ℕ). front ++ drop at text) (append-nil (take at text)) ∙ take-append-drop at text);
  some = omega (arith, length-drop {A = ℕ});
  sends = sends_on sent last;
  rose = omega (arith, sent.faults);
}

pub rose_since : (start old new : ℕ) → start ≤ old → RoseBy 1 old new → RoseBy 1 start new
rose_since start old new h rose = omega arith

-- the link failed after one text was written and a front of another
pub sends_short_after : {old mid new : Wire} {first second : List ℕ} → SendsWhole old mid first → SendsShort mid new second → SendsShort old new (first ++ second)
sends_short_after {old} {mid} {new} {first} {second} sent short = record {
  front = first ++ short.front;
  cut = short.cut;
  split = ap (λ (more : List ℕ). first ++ more) short.split ∙ sym (append_assoc first short.front short.cut);
  some = short.some;
  sends = sends_on sent.sends short.sends;
  rose = omega (arith, sent.sends.faults, short.rose);
}

-- the link failed in the first of two texts
pub sends_short_before : {old new : Wire} {first : List ℕ} (second : List ℕ) → SendsShort old new first → SendsShort old new (first ++ second)
sends_short_before {old} {new} {first} second short = record {
  front = short.front;
  cut = short.cut ++ second;
  split = ap (λ (all : List ℕ). all ++ second) short.split ∙ append_assoc short.front short.cut second;
  some = omega (arith, short.some, length-append short.cut second);
  sends = short.sends;
  rose = short.rose;
}
