-- No two ends hold of one session.
use Rattle.std.proofs.Common.{◌≡◌, ◌⊎◌, ℕ, List, [], ◌++◌, length, Bool, false, Some, sym, ap, subst, ◌∙◌, arith}
use Rattle.httparse.specs.Grammar.{NeverHasRequest}
use Rattle.http_front.specs.Message.{IsCrowded}
use Rattle.http_front.proofs.Bytes.{same_front}
use Rattle.http_front.proofs.Answering.{empty_decided}
use Rattle.kms_io.specs.Wire.{with_more}
use Rattle.session_front.specs.Items.{Item, Cuts}
use Rattle.session_front.specs.Session.{Outside, EndsBetween, EndsClosed, EndsInside}
use Rattle.session_front.specs.Complete.{TellsTaken, IsOneEnd}
use Rattle.session_front.proofs.Cutting.{nothing_open, closed_or_open, one_rest}

-- the bytes that came are those that are told
one_input : {S : Type 0} (old new : Outside S) (a b : List ℕ) → TellsTaken old new → new.wire.taken ≡ with_more old.wire.taken a → new.wire.taken ≡ with_more old.wire.taken b → a ≡ b
one_input old new a b told h k =
    let first : Some told.after ≡ with_more (Some told.before) a = sym told.tells_after ∙ h ∙ ap (λ all. with_more all a) told.tells_before in
    let second : Some told.after ≡ with_more (Some told.before) b = sym told.tells_after ∙ k ∙ ap (λ all. with_more all b) told.tells_before in
    let joined : Some (told.before ++ a) ≡ Some (told.before ++ b) = sym first ∙ second in
    let same : told.before ++ a ≡ told.before ++ b = cc in
    same_front told.before a b same

module _ {S : Type 0} (Step : S → Item → ℕ → Bool → List ℕ → S → Type 0) (old new : Outside S) (told : TellsTaken old new) where
  ended_and_closed : EndsBetween Step old new → EndsClosed Step old new → ⊥
  ended_and_closed e k =
      let same = one_input old new e.serves.input k.serves.input told e.serves.taken k.serves.taken in
      empty_decided (closed_or_open k.serves.cuts (subst (λ (input : List ℕ). Cuts input false e.serves.items []) same e.serves.cuts) nothing_open)

  ended_and_cut_off : EndsBetween Step old new → EndsInside Step old new → ⊥
  ended_and_cut_off e k =
      let same = one_input old new e.serves.input k.serves.input told e.serves.taken k.serves.taken in
      let rests : [] ≡ k.rest = one_rest (subst (λ (input : List ℕ). Cuts input false e.serves.items []) same e.serves.cuts) k.serves.cuts nothing_open k.awaits in
      let size : 0 ≡ length k.rest = ap length rests in
      omega (arith, k.some, size)

  cut_off_and_closed_lem : (e : EndsInside Step old new) → EndsClosed Step old new → NeverHasRequest e.rest ⊎ IsCrowded e.rest
  cut_off_and_closed_lem e k =
      let same = one_input old new e.serves.input k.serves.input told e.serves.taken k.serves.taken in
      closed_or_open k.serves.cuts (subst (λ (input : List ℕ). Cuts input false e.serves.items e.rest) same e.serves.cuts) e.awaits

pub one_end : {S : Type 0} (Step : S → Item → ℕ → Bool → List ℕ → S → Type 0) (old new : Outside S) → TellsTaken old new → IsOneEnd Step old new
one_end Step old new told = record {
  not_ended_and_closed = ended_and_closed Step old new told;
  not_ended_and_cut_off = ended_and_cut_off Step old new told;
  cut_off_and_closed = cut_off_and_closed_lem Step old new told;
}
