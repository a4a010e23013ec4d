-- What callers may want of sealing and opening: lengths, and what opens what. What the calls
-- use: the answers of `open`.
use Rattle.std.proofs.Common.{◌≡◌, ◌≢◌, ◌↔◌, ℕ, List, ◌++◌, length, Bool, true, false, IsTrue, Some, None, if◌then◌else◌, refl, sym, ap, ◌∙◌, arith}
use Rattle.std.proofs.lemmas.Bool.{cond-true, cond-false, false_from_ne_true, both_ways}
use Rattle.std.proofs.lemmas.List.{take_all}
use Rattle.std.proofs.lemmas.Slice.Eq.{bytes_eq-Decides}
use Rattle.std.specs.Str.{bytes_eq}
use Rattle.ghash_field.proofs.GhashFacts.{ghash_length}
use Rattle.gcm_seal.specs.Blocks.{blocks_of, padded}
use Rattle.gcm_seal.specs.Counter.{inc32, gctr}
use Rattle.gcm_seal.specs.Gcm.{hash_subkey, lengths_block, hash_of, pre_counter_block, sealed_text, tag_of, opened_text, open_of}
use Rattle.gcm_seal.proofs.GctrFacts.{length-gctr, gctr-gctr}

-- ---- lengths

-- a ciphertext is as long as its text
pub length-sealed_text : (key iv text : List ℕ) → length (sealed_text key iv text) ≡ length text
unfolding sealed_text
length-sealed_text key iv text = length-gctr key (inc32 (pre_counter_block iv)) text

-- and a plaintext as long as its ciphertext
pub length-opened_text : (key iv ciphertext : List ℕ) → length (opened_text key iv ciphertext) ≡ length ciphertext
unfolding opened_text
length-opened_text key iv ciphertext = length-gctr key (inc32 (pre_counter_block iv)) ciphertext

length-hash_of : (key aad ciphertext : List ℕ) → length (hash_of key aad ciphertext) ≡ 16
unfolding hash_of
length-hash_of key aad ciphertext =
    ghash_length (hash_subkey key) (blocks_of (padded aad ++ padded ciphertext ++ lengths_block aad ciphertext))

-- the whole of the last GCTR is the tag
pub tag_of-whole : (key iv aad ciphertext : List ℕ)
    → tag_of key iv aad ciphertext ≡ gctr key (pre_counter_block iv) (hash_of key aad ciphertext)
unfolding tag_of
tag_of-whole key iv aad ciphertext =
    take_all 16 (gctr key (pre_counter_block iv) (hash_of key aad ciphertext))
    (omega (arith, length-gctr key (pre_counter_block iv) (hash_of key aad ciphertext), length-hash_of key aad ciphertext))

-- a tag has 16 bytes
pub length-tag_of : (key iv aad ciphertext : List ℕ) → length (tag_of key iv aad ciphertext) ≡ 16
length-tag_of key iv aad ciphertext =
    ap length (tag_of-whole key iv aad ciphertext)
    ∙ length-gctr key (pre_counter_block iv) (hash_of key aad ciphertext)
    ∙ length-hash_of key aad ciphertext

-- ---- opening

pub open_of-authentic : (key iv aad ciphertext tag : List ℕ) → tag ≡ tag_of key iv aad ciphertext
    → open_of key iv aad ciphertext tag ≡ Some (opened_text key iv ciphertext)
unfolding open_of
open_of-authentic key iv aad ciphertext tag e =
    cond-true (bytes_eq tag (tag_of key iv aad ciphertext)) _ _ ((bytes_eq-Decides tag (tag_of key iv aad ciphertext)).1 e)

pub opens_nothing : (key iv aad ciphertext tag : List ℕ) → tag ≢ tag_of key iv aad ciphertext
    → open_of key iv aad ciphertext tag ≡ None
unfolding open_of
opens_nothing key iv aad ciphertext tag differs =
    cond-false (bytes_eq tag (tag_of key iv aad ciphertext)) _ _
    (false_from_ne_true (bytes_eq tag (tag_of key iv aad ciphertext))
    (λ same. differs ((bytes_eq-Decides tag (tag_of key iv aad ciphertext)).0 same)))

-- the plaintext of what was sealed is the text
pub opened_text-sealed : (key iv text : List ℕ) → opened_text key iv (sealed_text key iv text) ≡ text
unfolding opened_text sealed_text
opened_text-sealed key iv text = gctr-gctr key (inc32 (pre_counter_block iv)) text

pub opens_sealed : (key iv aad text : List ℕ)
    → open_of key iv aad (sealed_text key iv text) (tag_of key iv aad (sealed_text key iv text)) ≡ Some text
opens_sealed key iv aad text =
    open_of-authentic key iv aad (sealed_text key iv text) (tag_of key iv aad (sealed_text key iv text)) refl
    ∙ ap (λ (t : List ℕ). Some t) (opened_text-sealed key iv text)

-- ---- the answers of opening

-- a tag that was found equal to the one made
pub answered_true : (key iv aad text tag schedule made new : List ℕ) (authentic : Bool) → schedule ≡ key
    → made ≡ tag_of schedule iv aad text → (IsTrue authentic ↔ (made ≡ tag)) → authentic ≡ true
    → new ≡ opened_text key iv text → open_of key iv aad text tag ≡ (if authentic then Some new else None)
answered_true key iv aad text tag schedule made new authentic es em same found opened =
    open_of-authentic key iv aad text tag (sym (same.0 found) ∙ em ∙ ap (λ k. tag_of k iv aad text) es)
    ∙ ap (λ (t : List ℕ). Some t) (sym opened)
    ∙ sym (cond-true authentic (Some new) None found)

-- and one that was found different
pub answered_false : (key iv aad text tag schedule made new : List ℕ) (authentic : Bool) → schedule ≡ key
    → made ≡ tag_of schedule iv aad text → (IsTrue authentic ↔ (made ≡ tag)) → authentic ≡ false
    → open_of key iv aad text tag ≡ (if authentic then Some new else None)
answered_false key iv aad text tag schedule made new authentic es em same found =
    opens_nothing key iv aad text tag
    (λ e. both_ways authentic found (same.1 (em ∙ ap (λ k. tag_of k iv aad text) es ∙ sym e)))
    ∙ sym (cond-false authentic (Some new) None found)
