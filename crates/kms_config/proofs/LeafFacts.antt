-- What is read of a member's value, exactly as its form says.
use Rattle.std.proofs.Common.{◌≡◌, ◌≢◌, ℕ, ◌+◌, ◌*◌, ◌/◌, ◌%◌, ◌==◌, ◌≤◌, Bool, true, false, if◌then◌else◌, List, [], ◌∷◌, length, Option, Some, None, Result, Ok, Err, refl, sym, ap, ◌∙◌, subst, arith}
use Rattle.std.specs.Prelude.{All, MatchOption, nat_le, option_and_then}
use Rattle.std.specs.Bool.{Decides}
use Rattle.std.specs.Char.{is_ascii_alphanumeric}
use Rattle.std.specs.List.{AllPass, list_all}
use Rattle.std.specs.Result.{result_ok}
use Rattle.std.specs.Str.{bytes_eq}
use Rattle.std.proofs.lemmas.Bool.{false≢true, leb-true, le-leb}
use Rattle.std.proofs.lemmas.Bool.Decides.{Decides-and, Decides-by_and, Decides-eqb}
use Rattle.std.proofs.lemmas.Slice.Eq.{bytes_eq-Decides}
use Rattle.hex.specs.Hex.{◌>>=◌, decode_pairs, decode_sized, digit_or_error, hex_digit_value, pair_value, value_at}
use Rattle.hex.specs.declared.error.FromHexError.{FromHexError}
use Rattle.hex.specs.declared.error.FromHexError.TheVariants.{OddLength, InvalidStringLength}
use Rattle.serde_json.specs.Data.{unsigned, negative, float, Data, null, boolean, number, string, array, object, Items, no_items, item}
use Rattle.serde_json.specs.Find.{as_array}
use Rattle.kms_names.specs.Account.{IsAccountNumber}
use Rattle.kms_names.specs.Principal.{IsPrincipal, principal_text, account_of}
use Rattle.kms_names.specs.Reading.{some_if, is_account_number, is_region_text, principal_of}
use Rattle.kms_names.specs.Region.{IsRegion}
use Rattle.kms_names.specs.declared.principals.Principal.{Principal}
use Rattle.kms_names.proofs.PrincipalFacts.{one_principal}
use Rattle.kms_names.proofs.PrincipalReading.{principal_reads}
use Rattle.kms_names.proofs.ReadingFacts.{account_decides, region_decides}
use Rattle.policy_doc.specs.Texts.{items_len}
use Rattle.kms_config.specs.Forms.{text_where, account_in, region_in, root_in, is_boot, boot_in, has_length, is_key_id, is_visible, is_secret, if_of, principal_in}
use Rattle.kms_config.specs.Lists.{if_any, items_within}
use Rattle.kms_config.specs.Members.{text_in}
use Rattle.kms_config.specs.Grammar.{IsText, IsAccount, IsRegionText, IsRootSecret, IsBoot, HasLength, IsVisible, IsSecret, IsPrincipalOf, AreHexOf, values_of}
use Rattle.kms_config.proofs.JudgedFacts.{Both}

-- ---- tests

pub some_if_read : {A : Type 0} {P : Type 0} (b : Bool) (x y : A) → Decides b P → some_if b x ≡ Some y → (x ≡ y) × P
some_if_read true x y decides e = let same : x ≡ y = cc in (same, decides.0 refl)
some_if_read false x y decides e = let bad : None ≡ Some y = e in cc

pub some_if_taken : {A : Type 0} {P : Type 0} (b : Bool) (x : A) → Decides b P → P → some_if b x ≡ Some x
some_if_taken b x decides h = ap (λ c. some_if c x) (decides.1 h)

pub passes : (p : ℕ → Bool) (text : List ℕ) → Decides (list_all p text) (AllPass p text)
passes p text = Decides-by_and p (λ x. p x ≡ true) (list_all p) (λ x. (λ e. e, λ e. e)) refl (λ _ _. refl) text

pub le_decides : (x y : ℕ) → Decides (nat_le x y) (x ≤ y)
le_decides x y = (leb-true x y, le-leb x y)

pub length_decides : (text : List ℕ) → Decides (has_length text) (HasLength text)
length_decides text = Decides-and _ _ (le_decides 1 (length text)) (le_decides (length text) 128)

visible_decides : (c : ℕ) → Decides (is_visible c) (IsVisible c)
visible_decides c = Decides-and _ _ (le_decides 33 c) (le_decides c 126)

pub key_id_decides : (text : List ℕ) → Decides (is_key_id text) (HasLength text × AllPass is_ascii_alphanumeric text)
key_id_decides text = Decides-and _ _ (length_decides text) (passes is_ascii_alphanumeric text)

secret_decides : (text : List ℕ) → Decides (is_secret text) (HasLength text × All IsVisible text)
secret_decides text = Decides-and _ _ (length_decides text) (Decides-by_and is_visible IsVisible (list_all is_visible) visible_decides refl (λ _ _. refl) text)

-- ---- texts

pub text_both : (given : Option Data) → Both (text_in given) (IsText given)
text_both None = (λ text e. let bad : None ≡ Some text = e in cc, λ text e. let bad : None ≡ Some (string text) = e in cc)
text_both (Some null) = (λ text e. let bad : None ≡ Some text = e in cc, λ text e. let bad : null ≡ string text = cc in cc)
text_both (Some (boolean b)) = (λ text e. let bad : None ≡ Some text = e in cc, λ text e. let bad : boolean b ≡ string text = cc in cc)
text_both (Some (number n)) = (λ text e. let bad : None ≡ Some text = e in cc, λ text e. let bad : number n ≡ string text = cc in cc)
text_both (Some (string s)) = (λ text e. let same : s ≡ text = cc in ap (λ t. Some (string t)) same, λ text e. let same : s ≡ text = cc in ap Some same)
text_both (Some (array ds)) = (λ text e. let bad : None ≡ Some text = e in cc, λ text e. let bad : array ds ≡ string text = cc in cc)
text_both (Some (object ms)) = (λ text e. let bad : None ≡ Some text = e in cc, λ text e. let bad : object ms ≡ string text = cc in cc)

-- what is read of a text, where it is one
pub of_text : {A : Type 0} (given : Option Data) (read : List ℕ → Option A) (Is : List ℕ → A → Type 0) → ((text : List ℕ) → Both (read text) (Is text))
    → Both (option_and_then read (text_in given)) (λ x. (text : List ℕ) × IsText given text × Is text x)
of_text {A} given read Is both = by_text (text_in given) (text_both given)
  where
    by_text : (o : Option (List ℕ)) → Both o (IsText given) → Both (option_and_then read o) (λ x. (text : List ℕ) × IsText given text × Is text x)
    by_text None is = (λ x e. let bad : None ≡ Some x = e in cc, λ x h. let bad : None ≡ Some h.0 = is.1 h.0 h.1 in cc)
    by_text (Some text) is = (
      λ x e. (text, is.0 text refl, (both text).0 x e),
      λ x h. let same : text ≡ h.0 = let e : Some text ≡ Some h.0 = is.1 h.0 h.1 in cc in (both text).1 x (subst (λ t. Is t x) (sym same) h.2),
    )

-- a text of a form that a test decides
pub tested : (given : Option Data) (test : List ℕ → Bool) (Is : List ℕ → Type 0) → ((text : List ℕ) → Decides (test text) (Is text)) → Both (text_where test given) (λ text. IsText given text × Is text)
tested given test Is decides =
    let all = of_text given (λ text. some_if (test text) text) (λ text x. (text ≡ x) × Is text)
    (λ text. (λ x e. some_if_read (test text) text x (decides text) e, λ x h. some_if_taken (test text) text (decides text) h.1 ∙ ap Some h.0)) in (
      λ x e. let h = all.0 x e in (h.1 ∙ ap (λ t. Some (string t)) h.2.0, subst Is h.2.0 h.2.1),
      λ x h. all.1 x (x, h.0, (refl, h.1)),
    )

pub account_both : (given : Option Data) → Both (account_in given) (IsAccount given)
account_both given = tested given is_account_number IsAccountNumber account_decides

pub region_both : (given : Option Data) → Both (region_in given) (IsRegionText given)
region_both given = tested given is_region_text IsRegion region_decides

pub secret_both : (given : Option Data) → Both (text_where is_secret given) (IsSecret given)
secret_both given = let all = tested given is_secret (λ text. HasLength text × All IsVisible text) secret_decides in
    (λ x e. let h = all.0 x e in (h.0, h.1.0, h.1.1), λ x h. all.1 x (h.0, (h.1, h.2)))

of_result : {A E : Type 0} (r : Result A E) → Both (result_ok r) (λ x. r ≡ Ok x)
of_result {A} (Ok y) = (λ x e. let same : y ≡ x = cc in ap Ok same, λ x e. let same : y ≡ x = cc in ap Some same)
of_result {A} (Err why) = (λ x e. let bad : None ≡ Some x = e in cc, λ x e. let bad : Err why ≡ Ok x = e in cc)

digit_both : (c i : ℕ) → ((v : ℕ) → value_at c i ≡ Ok v → hex_digit_value c ≡ Some v) × ((v : ℕ) → hex_digit_value c ≡ Some v → value_at c i ≡ Ok v)
digit_both c i = by_value (hex_digit_value c)
  where
    by_value : (o : Option ℕ) → ((v : ℕ) → digit_or_error c i o ≡ Ok v → o ≡ Some v) × ((v : ℕ) → o ≡ Some v → digit_or_error c i o ≡ Ok v)
    by_value None = (λ v e. cc, λ v e. cc)
    by_value (Some w) = (λ v e. let same : w ≡ v = cc in ap Some same, λ v e. let same : w ≡ v = cc in ap Ok same)

pair_read : (high low : Result ℕ FromHexError) (byte : ℕ) → (do h ← high; l ← low; Ok (h * 16 + l)) ≡ Ok byte → (h : ℕ) × (l : ℕ) × (high ≡ Ok h) × (low ≡ Ok l) × (byte ≡ h * 16 + l)
pair_read (Ok h) (Ok l) byte e = let same : h * 16 + l ≡ byte = cc in (h, l, refl, refl, sym same)
pair_read (Ok h) (Err why) byte e = cc
pair_read (Err why) low byte e = cc

both_read : (first : Result ℕ FromHexError) (rest : Result (List ℕ) FromHexError) (bytes : List ℕ) → (do b ← first; bs ← rest; Ok (b ∷ bs)) ≡ Ok bytes → (b : ℕ) × (bs : List ℕ) × (first ≡ Ok b) × (rest ≡ Ok bs) × (bytes ≡ b ∷ bs)
both_read (Ok b) (Ok bs) bytes e = let same : b ∷ bs ≡ bytes = cc in (b, bs, refl, refl, sym same)
both_read (Ok b) (Err why) bytes e = cc
both_read (Err why) rest bytes e = cc

pairs_read : (i : ℕ) (digits bytes : List ℕ) → decode_pairs i digits ≡ Ok bytes → AreHexOf digits bytes
unfolding decode_pairs
pairs_read i [] [] e = tt
pairs_read i [] (b ∷ bytes) e = cc
pairs_read i (digit ∷ []) bytes e = cc
pairs_read i (first ∷ second ∷ digits) bytes e =
    let all = both_read (pair_value first second i) (decode_pairs (i + 2) digits) bytes e in
    let two = pair_read (value_at first i) (value_at second (i + 1)) all.0 all.2 in
    subst (AreHexOf (first ∷ second ∷ digits)) (sym all.4)
    ((two.0, two.1, (digit_both first i).0 two.0 two.2, (digit_both second (i + 1)).0 two.1 two.3, two.4), pairs_read (i + 2) digits all.1 all.3)

pairs_taken : (i : ℕ) (digits bytes : List ℕ) → AreHexOf digits bytes → decode_pairs i digits ≡ Ok bytes
unfolding decode_pairs
pairs_taken i [] [] is = refl
pairs_taken i [] (b ∷ bytes) is = absurd is
pairs_taken i (digit ∷ []) bytes is = absurd is
pairs_taken i (first ∷ second ∷ digits) [] is = absurd is
pairs_taken i (first ∷ second ∷ digits) (byte ∷ bytes) is =
    let one = (digit_both first i).1 is.0.0 is.0.2 in
    let two = (digit_both second (i + 1)).1 is.0.1 is.0.3 in
    let rest = pairs_taken (i + 2) digits bytes is.1 in
    let same = sym is.0.4 in
    rw (one, two, rest, same) refl

decoded : (b c : Bool) (r : Result (List ℕ) FromHexError) (root : List ℕ) → (if b then Err OddLength else (if c then r else Err InvalidStringLength)) ≡ Ok root → (b ≡ false) × (c ≡ true) × (r ≡ Ok root)
decoded true c r root e = cc
decoded false true r root e = (refl, refl, e)
decoded false false r root e = cc

sized_both : (text : List ℕ) → Both (result_ok (decode_sized text 32)) (λ root. (length text ≡ 64) × AreHexOf text root)
sized_both text = (
  λ root e.
      let is = (of_result (decode_sized text 32)).0 root e in
      let h = decoded (length text % 2 == 1) (length text / 2 == 32) (decode_pairs 0 text) root is in
      let odd = (Decides-eqb (length text % 2) 1).1 in
      let half = (Decides-eqb (length text / 2) 32).0 h.1 in
      let even : length text % 2 ≢ 1 = λ e. false≢true (sym h.0 ∙ odd e) in
      let len : length text ≡ 64 = omega (arith, even, half) in
      (len, pairs_read 0 text root h.2),
  λ root h. let len = h.0 in let pairs = pairs_taken 0 text root h.1 in rw (len, pairs) refl,
)

pub root_both : (given : Option Data) → Both (root_in given) (IsRootSecret given)
root_both given =
    let all = of_text given (λ text. result_ok (decode_sized text 32)) (λ text root. (length text ≡ 64) × AreHexOf text root) sized_both in
    (λ root e. let h = all.0 root e in (h.0, h.1, h.2.0, h.2.1), λ root h. all.1 root (h.0, h.1, (h.2, h.3)))

-- ---- numbers

boot_decides : (n : ℕ) → Decides (is_boot n) ((1 ≤ n) × (n ≤ 4294967295))
boot_decides n = Decides-and _ _ (le_decides 1 n) (le_decides n 4294967295)

pub boot_both : (given : Option Data) → Both (boot_in given) (IsBoot given)
boot_both None = (λ n e. let bad : None ≡ Some n = e in cc, λ n h. let bad : None ≡ Some (number (unsigned n)) = h.0 in cc)
boot_both (Some null) = (λ n e. let bad : None ≡ Some n = e in cc, λ n h. let e : Some null ≡ Some (number (unsigned n)) = h.0 in let bad : null ≡ number (unsigned n) = cc in cc)
boot_both (Some (boolean b)) = (λ n e. let bad : None ≡ Some n = e in cc, λ n h. let e : Some (boolean b) ≡ Some (number (unsigned n)) = h.0 in let bad : boolean b ≡ number (unsigned n) = cc in cc)
boot_both (Some (number (unsigned m))) = (
  λ n e. let h = some_if_read (is_boot m) m n (boot_decides m) e in (ap (λ k. Some (number (unsigned k))) h.0, subst (λ k. 1 ≤ k) h.0 h.1.0, subst (λ k. k ≤ 4294967295) h.0 h.1.1),
  λ n h. let same : m ≡ n = let e : Some (number (unsigned m)) ≡ Some (number (unsigned n)) = h.0 in let f : number (unsigned m) ≡ number (unsigned n) = cc in let g : unsigned m ≡ unsigned n = cc in cc in
      ap (λ k. some_if (is_boot k) k) same ∙ some_if_taken (is_boot n) n (boot_decides n) (h.1, h.2),
)
boot_both (Some (number (negative z))) = (λ n e. let bad : None ≡ Some n = e in cc, λ n h. let e : Some (number (negative z)) ≡ Some (number (unsigned n)) = h.0 in let f : number (negative z) ≡ number (unsigned n) = cc in let g : negative z ≡ unsigned n = cc in cc)
boot_both (Some (number (float x))) = (λ n e. let bad : None ≡ Some n = e in cc, λ n h. let e : Some (number (float x)) ≡ Some (number (unsigned n)) = h.0 in let f : number (float x) ≡ number (unsigned n) = cc in let g : float x ≡ unsigned n = cc in cc)
boot_both (Some (string s)) = (λ n e. let bad : None ≡ Some n = e in cc, λ n h. let e : Some (string s) ≡ Some (number (unsigned n)) = h.0 in let bad : string s ≡ number (unsigned n) = cc in cc)
boot_both (Some (array ds)) = (λ n e. let bad : None ≡ Some n = e in cc, λ n h. let e : Some (array ds) ≡ Some (number (unsigned n)) = h.0 in let bad : array ds ≡ number (unsigned n) = cc in cc)
boot_both (Some (object ms)) = (λ n e. let bad : None ≡ Some n = e in cc, λ n h. let e : Some (object ms) ≡ Some (number (unsigned n)) = h.0 in let bad : object ms ≡ number (unsigned n) = cc in cc)

-- ---- lists

pub values_length : (items : Items) → length (values_of items) ≡ items_len items
values_length no_items = refl
values_length (item d ds) = let rest = values_length ds in omega (arith, rest)

array_both : (given : Option Data) → Both (option_and_then as_array given) (λ items. given ≡ Some (array items))
array_both None = (λ x e. let bad : None ≡ Some x = e in cc, λ x e. let bad : None ≡ Some (array x) = e in cc)
array_both (Some null) = (λ x e. let bad : None ≡ Some x = e in cc, λ x e. let bad : null ≡ array x = cc in cc)
array_both (Some (boolean b)) = (λ x e. let bad : None ≡ Some x = e in cc, λ x e. let bad : boolean b ≡ array x = cc in cc)
array_both (Some (number n)) = (λ x e. let bad : None ≡ Some x = e in cc, λ x e. let bad : number n ≡ array x = cc in cc)
array_both (Some (string s)) = (λ x e. let bad : None ≡ Some x = e in cc, λ x e. let bad : string s ≡ array x = cc in cc)
array_both (Some (array ds)) = (λ x e. let same : ds ≡ x = cc in ap (λ t. Some (array t)) same, λ x e. let same : ds ≡ x = cc in ap Some same)
array_both (Some (object ms)) = (λ x e. let bad : None ≡ Some x = e in cc, λ x e. let bad : object ms ≡ array x = cc in cc)

-- what passes a test, where it is there
pub and_if : {A : Type 0} (o : Option A) (test : A → Bool) (P Q : A → Type 0) → Both o P → ((x : A) → P x → Decides (test x) (Q x)) → Both (option_and_then (λ x. some_if (test x) x) o) (λ x. P x × Q x)
and_if {A} None test P Q is decides = (λ x e. let bad : None ≡ Some x = e in cc, λ x h. let bad : None ≡ Some x = is.1 x h.0 in cc)
and_if (Some y) test P Q is decides = (
  λ x e. let h = some_if_read (test y) y x (decides y (is.0 y refl)) e in (is.0 x (ap Some h.0), subst Q h.0 h.1),
  λ x h. let same : y ≡ x = let e : Some y ≡ Some x = is.1 x h.0 in cc in ap (λ t. some_if (test t) t) same ∙ some_if_taken (test x) x (decides x h.0) h.1,
)

pub few_both : (most : ℕ) (given : Option Data) → Both (items_within most given) (λ items. (given ≡ Some (array items)) × (items_len items ≤ most))
few_both most given = and_if (option_and_then as_array given) (λ items. nat_le (items_len items) most) (λ items. given ≡ Some (array items)) (λ items. items_len items ≤ most) (array_both given) (λ items _. le_decides (items_len items) most)

pub some_both : (most : ℕ) (given : Option Data) → Both (option_and_then if_any (items_within most given)) (λ items. ((given ≡ Some (array items)) × (items_len items ≤ most)) × (1 ≤ items_len items))
some_both most given =
    and_if (items_within most given) (λ items. nat_le 1 (items_len items)) (λ items. (given ≡ Some (array items)) × (items_len items ≤ most)) (λ items. 1 ≤ items_len items) (few_both most given) (λ items _. le_decides 1 (items_len items))

-- ---- principals

reads_both : (text : List ℕ) (o : Option Principal) → MatchOption o ((p : Principal) → IsPrincipal p → text ≢ principal_text p) (λ p. IsPrincipal p × (text ≡ principal_text p)) → Both o (λ p. IsPrincipal p × (text ≡ principal_text p))
reads_both text None none = (λ p e. let bad : None ≡ Some p = e in cc, λ p h. absurd (none p h.0 h.1))
reads_both text (Some q) is = (
  λ p e. let same : q ≡ p = cc in subst (λ r. IsPrincipal r × (text ≡ principal_text r)) same is,
  λ p h. ap Some (one_principal q p is.0 h.0 (sym is.1 ∙ h.1)),
)

account_both_of : (account text : List ℕ) → Both (option_and_then (if_of account) (principal_of text)) (λ p. (IsPrincipal p × (text ≡ principal_text p)) × (account_of p ≡ account))
account_both_of account text =
    and_if (principal_of text) (λ p. bytes_eq (account_of p) account) (λ p. IsPrincipal p × (text ≡ principal_text p)) (λ p. account_of p ≡ account) (reads_both text (principal_of text) (principal_reads text))
    (λ p _. bytes_eq-Decides (account_of p) account)

and_then_swap : {A B C : Type 0} (f : B → Option C) (g : A → Option B) (o : Option A) → option_and_then f (option_and_then g o) ≡ option_and_then (λ x. option_and_then f (g x)) o
and_then_swap f g None = refl
and_then_swap f g (Some x) = refl

pub principal_both : (account : List ℕ) (given : Option Data) → Both (principal_in account given) (IsPrincipalOf account given)
principal_both account given =
    let all = of_text given (λ text. option_and_then (if_of account) (principal_of text)) (λ text p. (IsPrincipal p × (text ≡ principal_text p)) × (account_of p ≡ account)) (account_both_of account) in
    let swap = and_then_swap (if_of account) principal_of (text_in given) in (
      λ p e. let h = all.0 p (sym swap ∙ e) in (h.1 ∙ ap (λ t. Some (string t)) h.2.0.1, h.2.0.0, h.2.1),
      λ p h. swap ∙ all.1 p (principal_text p, h.0, ((h.1, refl), h.2)),
    )
