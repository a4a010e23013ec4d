-- What is drawn, and what is sealed after a draw.
use Rattle.std.proofs.Common.{◌≡◌, ℕ, List, sym, ap, ◌∙◌, add-zero}
use Rattle.draw_lines.specs.Draw.{draw_at}
use Rattle.draw_lines.specs.Iv.{iv_at}
use Rattle.draw_lines.specs.Line.{Line}
use Rattle.enc_context.specs.declared.pairs.Pair.{Pair}
use Rattle.crypto_ops.specs.Sealed.{sealed}
use Rattle.account_steps.specs.declared.facts.RealmFacts.{RealmFacts}
use Rattle.kms_json.specs.declared.asks.cryptography.DataKey.{DataKey}
use Rattle.key_states.specs.declared.rows.KeyRow.{KeyRow}
use Rattle.account_crypto.specs.Crypto.{words_of, sealed_key}
use Rattle.account_steps.specs.Places.{places_of, line_at, IsLineOf}
use Rattle.account_steps.specs.Parts.{after}
use Rattle.account_steps.specs.Steps.{seals, draws, newest_version}
use Rattle.account_steps.specs.View.{View}

pub drawn_is : (view : View) (line : Line) (size n : ℕ) (room : List ℕ) → IsLineOf view.facts line → view.places ≡ places_of line → n ≡ size → room ≡ draw_at line.seed line.words n
    → room ≡ draws view.facts size view.places
unfolding draws
drawn_is view line size n room is at sized drawn =
    drawn ∙ ap (λ (seed : List ℕ). draw_at seed line.words n) is.seed ∙ ap (draw_at _ line.words) sized
    ∙ sym (ap (draws view.facts size) at)

-- a draw leaves the initialization vectors
sealed_after : (facts : RealmFacts) (row : KeyRow) (pairs : List Pair) (text : List ℕ) (line next : Line) (size : ℕ) → next ≡ line_at line (after (places_of line) (words_of size))
    → seals facts row pairs text (places_of next) ≡ seals facts row pairs text (places_of line)
unfolding seals
sealed_after facts row pairs text line next size e =
    ap (λ (l : Line). sealed facts.root row.key (newest_version row) (iv_at facts.boot l.pass_number l.ivs) pairs text) e
    ∙ ap (λ (n : ℕ). sealed facts.root row.key (newest_version row) (iv_at facts.boot line.pass_number n) pairs text) (add-zero line.ivs)

-- what is sealed after its draw is the sealed data key
pub sealed_is : (view : View) (x : DataKey) (row : KeyRow) (line next : Line) (size : ℕ) (room blob : List ℕ)
    → view.places ≡ places_of line → room ≡ draws view.facts x.size view.places → next ≡ line_at line (after (places_of line) (words_of size))
    → blob ≡ seals view.facts row x.context room (places_of next) → blob ≡ sealed_key view x row
sealed_is view x row line next size room blob at drawn on is =
    is ∙ sealed_after view.facts row x.context room line next size on
    ∙ ap (seals view.facts row x.context room) (sym at)
    ∙ ap (λ (text : List ℕ). seals view.facts row x.context text view.places) drawn
