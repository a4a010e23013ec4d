-- What was sealed in a run of the machine.
use Rattle.std.proofs.Common.{◌≡◌, ℕ, zero, suc, ◌+◌, ◌^◌, ◌<◌, ◌≤◌, ◌==◌, Bool, true, false, cond, None, List, [], ◌∷◌, ◌++◌, length, take, drop, refl, ap, sym, ◌∙◌, subst, arith, append_assoc}
use Rattle.std.proofs.lemmas.List.{take-append-drop, map-append, length-take-le}
use Rattle.std.proofs.lemmas.Bool.{false≢true}
use Rattle.std.proofs.lemmas.Bool.Decides.{nat_tests}
use mathlib.Core.List.{IsPrefix}
use Rattle.account_steps.specs.declared.facts.RealmFacts.{RealmFacts}
use Rattle.account_steps.specs.History.{Entry}
use Rattle.account_steps.specs.declared.places.Places.{Places}
use Rattle.grant_table.specs.Grants.{grant_with}
use Rattle.account_rows.specs.History.{replay}
use Rattle.account_laws.proofs.Histories.{opened_take, same_account}
use Rattle.account_laws.specs.Laws.{IsOpened, PassGoesOn, TimesNeverFall, SealedIsDecryptedAgain, DroppedGrantsStayAway, OnePassRepeatsNoIv, PassesShareNoIv, BootsShareNoIv, AsksToOpen, reply_to, exception_of, unless_excepted}
use Rattle.kms_json.specs.declared.replies.Reply.TheVariants.{Decrypted}
use Rattle.published_account.specs.Pairs.{entries_of}
use Rattle.pass_laws.specs.Machine.{State, read, places_after, SealedStaysReadable, DroppedStaysAway, NoVectorTwice, NoVectorShared, NoVectorOverBoots}
use Rattle.published_account.proofs.Lists.{prefix_trans, prefix_shorter}
use Rattle.pass_laws.proofs.Kept.{reached, goes, ran}

-- ---- beginnings

entries_of-take : (k : ℕ) (pairs : List (Entry × ℕ)) → entries_of (take k pairs) ≡ take k (entries_of pairs)
entries_of-take zero pairs = refl
entries_of-take (suc k) [] = refl
entries_of-take (suc k) (pair ∷ pairs) = ap (λ (rest : List Entry). pair.0 ∷ rest) (entries_of-take k pairs)

prefix_entries : (xs ys : List (Entry × ℕ)) → IsPrefix xs ys → IsPrefix (entries_of xs) (entries_of ys)
prefix_entries xs ys (more, is) = (entries_of more, sym (map-append (λ (made : Entry × ℕ). made.0) xs more) ∙ ap entries_of is)

prefix_take : {A : Type 0} (k : ℕ) (xs : List A) → IsPrefix (take k xs) xs
prefix_take k xs = (drop k xs, take-append-drop k xs)

-- the first k of a history begin the first j of a later one
begins_later : (s t : List (Entry × ℕ)) (k j : ℕ) → IsPrefix s t → k ≤ length s → k ≤ j → j ≤ length t → IsPrefix (take k s) (take j t)
begins_later s t k j on within le there =
    prefix_shorter (take k s) (take j t) t (prefix_trans (take k s) s t (prefix_take k s) on) (prefix_take j t)
    (let short : length (take k s) ≡ k = length-take-le k s within in let long : length (take j t) ≡ j = length-take-le j t there in omega (arith, short, long))

-- the first k entries of a history that an opened account holds
opened_first : (facts : RealmFacts) (k : ℕ) (pairs : List (Entry × ℕ)) → IsOpened facts (entries_of pairs) → IsOpened facts (entries_of (take k pairs))
opened_first facts k pairs opened = subst (IsOpened facts) (sym (entries_of-take k pairs)) (opened_take facts (entries_of pairs) k opened)

-- ---- the laws

pub readable : TimesNeverFall → SealedIsDecryptedAgain → SealedStaysReadable
readable times law facts p loaded before after s t k j x y places others sealing opened run more within le along proper sealed policies asks =
    let grown = goes facts p loaded times opened before after s t run more in
    let first : List Entry = entries_of (take k s.history) in
    let last : List Entry = entries_of (take j t.history) in
    let begins = prefix_entries (take k s.history) (take j t.history) (begins_later s.history t.history k j grown.1.history within le along) in
    let there : IsOpened facts last = opened_first facts j t.history grown.0.opened in
    let same : first ++ begins.0 ≡ last = begins.1 in
    let P : List Entry → Type 0 = λ h. (a : AsksToOpen facts h y others sealing.blob sealing.context)
    → reply_to facts h y others ≡ unless_excepted (exception_of sealing.arn a.held.stored) (Decrypted sealing.plaintext sealing.arn) in
    subst P same (λ a. law facts facts first begins.0 x y places others sealing (same_account facts) (subst (IsOpened facts) (sym same) there) proper sealed policies a) asks

pub dropped_stays_away : TimesNeverFall → DroppedGrantsStayAway → DroppedStaysAway
dropped_stays_away times law facts p n j loaded before after s t history more entry grant opened run further seen drops le there =
    let here = reached facts p loaded times opened before s run in
    let grown = goes facts p loaded times opened before after s t run further in
    let first : List Entry = entries_of (take (s.seen n) s.history) in
    let last : List Entry = entries_of (take j t.history) in
    let later : s.seen n ≤ t.seen n = grown.1.seen n in
    let begins = prefix_entries (take (s.seen n) s.history) (take j t.history) (begins_later s.history t.history (s.seen n) j grown.1.history (here.seen n) (omega arith) there) in
    let last_opened : IsOpened facts last = opened_first facts j t.history grown.0.opened in
    let joined : first ++ begins.0 ≡ last = begins.1 in
    let same : (history ++ entry ∷ []) ++ (more ++ begins.0) ≡ last =
    sym (append_assoc (history ++ entry ∷ []) more begins.0) ∙ ap (λ (h : List Entry). h ++ begins.0) (sym seen) ∙ joined in
    subst (λ (h : List Entry). grant_with (replay h).grants grant ≡ None) same (law facts history (more ++ begins.0) entry grant (subst (IsOpened facts) (sym same) last_opened).held drops)

cond_self : (n : ℕ) (x y : Places) (b : Bool) → (n == n) ≡ b → cond b x y ≡ x
cond_self n x y true is = refl
cond_self n x y false is = absurd (false≢true (sym is ∙ grind (arith, nat_tests)))

pub no_vector_twice : TimesNeverFall → OnePassRepeatsNoIv → NoVectorTwice
no_vector_twice times law facts p n k j loaded before between s t u v x y one other opened run first more second sealed again =
    let here = reached facts p loaded times opened before s run in
    let stepped = goes facts p loaded times opened before (read n x k ∷ []) s t run (t, first, refl) in
    let on = ran facts p loaded times t between u stepped.0 more in
    let left : t.places n ≡ places_after facts s n x k = ap (λ (w : State). w.places n) first.2 ∙ cond_self n (places_after facts s n x k) (s.places n) (n == n) refl in
    law facts (entries_of (take k s.history)) (entries_of (take j u.history)) x y (s.places n) (u.places n) one other
    (opened_first facts k s.history here.opened) (opened_first facts j u.history on.0.opened) sealed again
    (subst (λ (q : Places). PassGoesOn facts q (u.places n)) left (on.1.places n))

pub no_vector_shared : TimesNeverFall → PassesShareNoIv → NoVectorShared
no_vector_shared times law facts p n m k j loaded before between s u x y one other opened run more fits fits_too apart sealed again =
    let here = reached facts p loaded times opened before s run in
    let on = goes facts p loaded times opened before between s u run more in
    let first : (s.places n).number ≡ n = here.number n in
    let second : (u.places m).number ≡ m = on.0.number m in
    law facts (entries_of (take k s.history)) (entries_of (take j u.history)) x y (s.places n) (u.places m) one other
    (opened_first facts k s.history here.opened) (opened_first facts j u.history on.0.opened) sealed again
    (subst (λ (i : ℕ). i < 2 ^ 16) (sym first) fits) (subst (λ (i : ℕ). i < 2 ^ 16) (sym second) fits_too) (λ same. apart (sym first ∙ same ∙ second))

pub no_vector_over_boots : TimesNeverFall → BootsShareNoIv → NoVectorOverBoots
no_vector_over_boots times law facts later_facts p q n m k j loaded reloaded before later s u x y one other opened reopened run later_run fits fits_too apart sealed again =
    let here = reached facts p loaded times opened before s run in
    let there = reached later_facts q reloaded times reopened later u later_run in
    law facts later_facts (entries_of (take k s.history)) (entries_of (take j u.history)) x y (s.places n) (u.places m) one other
    (opened_first facts k s.history here.opened) (opened_first later_facts j u.history there.opened) sealed again fits fits_too apart
