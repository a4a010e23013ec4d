-- The functions of the readers answer as the written forms say.
use Rattle.std.proofs.Common.{◌≡◌, ◌≢◌, ℕ, ◌≤◌, Bool, true, false, ◌&&◌, ◌==◌, not, List, [], ◌∷◌, ◌++◌, length, Option, Some, None, Ok, Err, refl, ap, sym, ◌∙◌, subst, if◌then◌else◌}
use Rattle.std.specs.Prelude.{codes, MatchOption, MatchResult, option_map, is_some, nat_le}
use Rattle.std.specs.Bool.{Decides}
use Rattle.std.specs.List.{AllPass, list_all}
use Rattle.std.specs.Char.{is_ascii_digit}
use Rattle.std.proofs.lemmas.Bool.{false≢true, and_parts, and_from, leb-true, le-leb}
use Rattle.std.proofs.lemmas.Bool.Decides.{Decides-eqb, Decides-and, Decides-by_and}
use Rattle.std.proofs.lemmas.List.{append_cancel_left}
use Rattle.std.proofs.lemmas.List.Elements.{All-nil, All-cons}
use Rattle.kms_names.specs.Parts.{HasNoColon}
use Rattle.kms_names.specs.Account.{IsAccountNumber}
use Rattle.kms_names.specs.Region.{IsRegion}
use Rattle.kms_names.specs.Alias.{IsAliasName, is_alias_character}
use Rattle.kms_names.specs.Characters.{is_region_character, is_name_character}
use Rattle.kms_names.specs.Principal.{IsPathAndName}
use Rattle.kms_names.specs.Reading.{some_if, after_front, cut_at_colon, is_account_number, is_region_text, is_path_and_name, is_alias_part, is_alias_text, alias_of}
use Rattle.kms_names.specs.declared.faults.NameFault.TheVariants.{BadAlias}

pub option_weaker : {A P P' : Type 0} {Q Q' : A → Type 0} (o : Option A) → (P → P') → ((x : A) → Q x → Q' x) → MatchOption o P Q → MatchOption o P' Q'
option_weaker None none some h = none h
option_weaker (Some x) none some h = some x h

-- a value under a test that decides a fact
pub some_if_is : {A P N : Type 0} (b : Bool) (x : A) (Q : A → Type 0) → Decides b P → (¬ P → N) → (P → Q x) → MatchOption (some_if b x) N Q
some_if_is true x Q decides none some = some (decides.0 refl)
some_if_is false x Q decides none some = none (λ h. false≢true (decides.1 h))

front_step : (b : Bool) (c d : ℕ) (front text : List ℕ) → Decides b (c ≡ d)
    → MatchOption (after_front front text) ((rest : List ℕ) → text ≢ front ++ rest) (λ rest. text ≡ front ++ rest)
    → MatchOption (if b then after_front front text else None) ((rest : List ℕ) → d ∷ text ≢ c ∷ front ++ rest) (λ rest. d ∷ text ≡ c ∷ front ++ rest)
front_step true c d front text decides h =
    let heads : c ≡ d = decides.0 refl in
    option_weaker (after_front front text) (λ none rest e. let tails : text ≡ front ++ rest = cc in none rest tails) (λ rest e. cc) h
front_step false c d front text decides h = λ rest e. let heads : c ≡ d = cc in false≢true (decides.1 heads)

pub after_front_is : (front text : List ℕ) → MatchOption (after_front front text) ((rest : List ℕ) → text ≢ front ++ rest) (λ rest. text ≡ front ++ rest)
after_front_is [] text = refl
after_front_is (c ∷ front) [] = λ rest e. cc
after_front_is (c ∷ front) (d ∷ text) = front_step (c == d) c d front text (Decides-eqb c d) (after_front_is front text)

cut_step : (b : Bool) (c : ℕ) (text : List ℕ) → Decides b (c ≡ 58) → (o : Option (List ℕ × List ℕ)) → MatchOption o (HasNoColon text) (λ p. HasNoColon p.0 × (text ≡ p.0 ++ 58 ∷ p.1))
    → MatchOption {T = List ℕ × List ℕ} (if b then Some ([], text) else option_map (λ p. (c ∷ p.0, p.1)) o) (HasNoColon (c ∷ text)) (λ p. HasNoColon p.0 × (c ∷ text ≡ p.0 ++ 58 ∷ p.1))
cut_step true c text decides o h = (All-nil (λ c. c ≢ 58), ap (λ x. x ∷ text) (decides.0 refl))
cut_step false c text decides None none = All-cons (λ c. c ≢ 58) c text (λ e. false≢true (decides.1 e)) none
cut_step false c text decides (Some p) h = (All-cons (λ c. c ≢ 58) c p.0 (λ e. false≢true (decides.1 e)) h.0, ap (λ t. c ∷ t) h.1)

pub cut_is : (text : List ℕ) → MatchOption (cut_at_colon text) (HasNoColon text) (λ p. HasNoColon p.0 × (text ≡ p.0 ++ 58 ∷ p.1))
cut_is [] = All-nil (λ c. c ≢ 58)
cut_is (c ∷ text) = cut_step (c == 58) c text (Decides-eqb c 58) (cut_at_colon text) (cut_is text)

passes : (p : ℕ → Bool) (text : List ℕ) → Decides (list_all p text) (AllPass p text)
passes p text = Decides-by_and p (λ x. p x ≡ true) (list_all p) (λ x. (λ e. e, λ e. e)) refl (λ _ _. refl) text

le_decides : (x y : ℕ) → Decides (nat_le x y) (x ≤ y)
le_decides x y = (leb-true x y, le-leb x y)

decides_three : {P Q R : Type 0} (a b c : Bool) → Decides a P → Decides b Q → Decides c R → Decides (a && (b && c)) (P × Q × R)
decides_three a b c p q r = (
  λ e. let first = and_parts a (b && c) e in let others = and_parts b c first.1 in (p.0 first.0, q.0 others.0, r.0 others.1),
  λ h. and_from a (b && c) (p.1 h.0) (and_from b c (q.1 h.1) (r.1 h.2)),
)

pub account_decides : (text : List ℕ) → Decides (is_account_number text) (IsAccountNumber text)
account_decides text = Decides-and _ _ (Decides-eqb (length text) 12) (passes is_ascii_digit text)

pub region_decides : (text : List ℕ) → Decides (is_region_text text) (IsRegion text)
region_decides text = decides_three _ _ _ (le_decides 1 (length text)) (le_decides (length text) 32) (passes is_region_character text)

pub path_decides : (text : List ℕ) → Decides (is_path_and_name text) (IsPathAndName text)
path_decides text = decides_three _ _ _ (le_decides 1 (length text)) (le_decides (length text) 512) (passes is_name_character text)

not_some : {A : Type 0} (P : Type 0) (Q : A → Type 0) (o : Option A) → MatchOption o P Q → not (is_some o) ≡ true → P
not_some P Q None h e = h
not_some P Q (Some x) h e = cc

none_is : {A : Type 0} (P : Type 0) (Q : A → Type 0) (o : Option A) → MatchOption o P Q → ((x : A) → ¬ (Q x)) → not (is_some o) ≡ true
none_is P Q None h no_value = refl
none_is P Q (Some x) h no_value = absurd (no_value x h)

some_is : {A : Type 0} (P : Type 0) (Q : A → Type 0) (o : Option A) → MatchOption o P Q → is_some o ≡ true → (x : A) × Q x
some_is P Q None h e = cc
some_is P Q (Some x) h e = (x, h)

some_from : {A : Type 0} (P : Type 0) (Q : A → Type 0) (o : Option A) → MatchOption o P Q → ¬ P → is_some o ≡ true
some_from P Q None h no_none = absurd (no_none h)
some_from P Q (Some x) h no_none = refl

module _ (front text : List ℕ) where
  no_front : not (is_some (after_front front text)) ≡ true → (rest : List ℕ) → text ≢ front ++ rest
  no_front e = not_some ((rest : List ℕ) → text ≢ front ++ rest) (λ rest. text ≡ front ++ rest) (after_front front text) (after_front_is front text) e

  from_no_front : ((rest : List ℕ) → text ≢ front ++ rest) → not (is_some (after_front front text)) ≡ true
  from_no_front none = none_is ((rest : List ℕ) → text ≢ front ++ rest) (λ rest. text ≡ front ++ rest) (after_front front text) (after_front_is front text) none

  pub front_decides : Decides (is_some (after_front front text)) ((rest : List ℕ) × (text ≡ front ++ rest))
  front_decides = (
    λ e. some_is ((rest : List ℕ) → text ≢ front ++ rest) (λ rest. text ≡ front ++ rest) (after_front front text) (after_front_is front text) e,
    λ h. some_from ((rest : List ℕ) → text ≢ front ++ rest) (λ rest. text ≡ front ++ rest) (after_front front text) (after_front_is front text) (λ none. none h.0 h.1),
  )

alias_part_is : (text : List ℕ) (o : Option (List ℕ)) → MatchOption o ((rest : List ℕ) → text ≢ codes "alias/" ++ rest) (λ rest. text ≡ codes "alias/" ++ rest)
    → is_alias_part o ≡ true → (name : List ℕ) × (text ≡ codes "alias/" ++ name) × (1 ≤ length name) × AllPass is_alias_character name
alias_part_is text None h e = cc
alias_part_is text (Some name) h e =
    let parts = and_parts _ _ e in (name, h, (le_decides 1 (length name)).0 parts.0, (passes is_alias_character name).0 parts.1)

alias_part_from : (text name : List ℕ) (o : Option (List ℕ)) → MatchOption o ((rest : List ℕ) → text ≢ codes "alias/" ++ rest) (λ rest. text ≡ codes "alias/" ++ rest)
    → text ≡ codes "alias/" ++ name → 1 ≤ length name → AllPass is_alias_character name → is_alias_part o ≡ true
alias_part_from text name None h e some chars = absurd (h name e)
alias_part_from text name (Some other) h e some chars =
    let same : name ≡ other = append_cancel_left (codes "alias/") name other (sym e ∙ h) in
    and_from _ _ ((le_decides 1 (length other)).1 (subst (λ n. 1 ≤ length n) same some)) ((passes is_alias_character other).1 (subst (AllPass is_alias_character) same chars))

pub alias_decides : (text : List ℕ) → Decides (is_alias_text text) (IsAliasName text)
alias_decides text = (
  λ e. let first = and_parts _ _ e in
      let others = and_parts _ _ first.1 in
      let name = alias_part_is text _ (after_front_is (codes "alias/") text) first.0 in
      (name.0, name.1, name.2, (le_decides (length text) 256).0 others.0, name.3, no_front (codes "alias/aws/") text others.1),
  λ h. and_from _ _ (alias_part_from text h.0 _ (after_front_is (codes "alias/") text) h.1 h.2 h.4)
      (and_from _ _ ((le_decides (length text) 256).1 h.3) (from_no_front (codes "alias/aws/") text h.5)),
)

alias_answer : (b : Bool) (text : List ℕ) → Decides b (IsAliasName text)
    → MatchResult (if b then Ok text else Err BadAlias) (λ name. IsAliasName text × (name ≡ text)) (λ fault. ¬ (IsAliasName text) × (fault ≡ BadAlias))
alias_answer true text decides = (decides.0 refl, refl)
alias_answer false text decides = (λ h. false≢true (decides.1 h), refl)

pub alias_reads : (text : List ℕ) → MatchResult (alias_of text) (λ name. IsAliasName text × (name ≡ text)) (λ fault. ¬ (IsAliasName text) × (fault ≡ BadAlias))
alias_reads text = alias_answer (is_alias_text text) text (alias_decides text)
