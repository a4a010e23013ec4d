-- What the kind of a request means.
use Rattle.std.proofs.Common.{◌≡◌, ◌↔◌, ℕ, List, Bool, true, false, Option, Some, None, option_map, unwrap_or, ◌⊎◌, inl, inr, refl, sym, ap, ◌∙◌, subst}
use Rattle.std.specs.Str.{bytes_eq}
use Rattle.std.specs.Option.{option_or}
use Rattle.std.proofs.lemmas.Bool.{false≢true, true≢false}
use Rattle.std.proofs.lemmas.Slice.Eq.{bytes_eq-Decides}
use Rattle.hmac_keys.specs.declared.kinds.KeyKind.{KeyKind}
use Rattle.hmac_keys.specs.declared.kinds.KeyKind.TheVariants.{Symmetric, Hmac256}
use Rattle.hmac_keys.specs.declared.kinds.KindField.{KindField}
use Rattle.hmac_keys.specs.declared.kinds.KindField.TheVariants.{KeyUsage, CustomerMasterKeySpec, KeySpec}
use Rattle.hmac_keys.specs.declared.kinds.KindRead.{KindRead}
use Rattle.hmac_keys.specs.declared.kinds.KindRead.TheVariants.{Kind, Unsupported}
use Rattle.hmac_keys.specs.Kind.{usage_text, spec_text, text_in}
use Rattle.hmac_keys.specs.Asked.{names_none, kind_of}
use Rattle.hmac_keys.specs.Laws.{Fits, KindOfFits}

-- ---- a field is absent, a kind's text, or unknown

-- a text is another one, or differs from it
same_or : (t x : List ℕ) (Q : List ℕ → Type 0) → Q x → (bytes_eq t x ≡ false → Q t) → Q t
same_or t x Q is not = by_test (bytes_eq t x) refl
  where
    by_test : (b : Bool) → bytes_eq t x ≡ b → Q t
    by_test true e = subst Q (sym ((bytes_eq-Decides t x).0 e)) is
    by_test false e = not e

unknown_text : (field : KindField) (t : List ℕ) → bytes_eq t (text_in field Symmetric) ≡ false
    → bytes_eq t (text_in field Hmac256) ≡ false → names_none field (Some t) ≡ true
unknown_text field t first second = simp (first, second) refl

-- what holds where a field is absent or a kind's text, and where it is unknown, holds in any case
by_field : (field : KindField) (P : Option (List ℕ) → Type 0) (given : Option (List ℕ))
    → ((kind : Option KeyKind) → P (option_map (text_in field) kind))
    → ((o : Option (List ℕ)) → names_none field o ≡ true → P o) → P given
by_field field P None known unknown = known None
by_field field P (Some t) known unknown =
    same_or t (text_in field Symmetric) (λ s. P (Some s)) (known (Some Symmetric))
    (λ first. same_or t (text_in field Hmac256) (λ s. P (Some s)) (known (Some Hmac256))
    (λ second. unknown (Some t) (unknown_text field t first second)))

known_text : (field : KindField) (kind : Option KeyKind) → names_none field (option_map (text_in field) kind) ≡ false
known_text field None = refl
known_text KeyUsage (Some Symmetric) = refl
known_text KeyUsage (Some Hmac256) = refl
known_text CustomerMasterKeySpec (Some Symmetric) = refl
known_text CustomerMasterKeySpec (Some Hmac256) = refl
known_text KeySpec (Some Symmetric) = refl
known_text KeySpec (Some Hmac256) = refl

-- a field that is absent or a kind's text is known
pub is_known : (field : KindField) (o : Option (List ℕ)) (kind : Option KeyKind) → o ≡ option_map (text_in field) kind
    → names_none field o ≡ false
is_known field o kind e = ap (names_none field) e ∙ known_text field kind

-- ---- the refusals of unknown texts

pub usage_refused : (usage master spec : Option (List ℕ)) → names_none KeyUsage usage ≡ true
    → kind_of usage master spec ≡ Unsupported KeyUsage
unfolding kind_of
usage_refused usage master spec unknown = simp (unknown) refl

pub master_refused : (usage master spec : Option (List ℕ)) → names_none KeyUsage usage ≡ false
    → names_none CustomerMasterKeySpec master ≡ true → kind_of usage master spec ≡ Unsupported CustomerMasterKeySpec
unfolding kind_of
master_refused usage master spec known unknown = simp (known, unknown) refl

pub spec_refused : (usage master spec : Option (List ℕ)) → names_none KeyUsage usage ≡ false
    → names_none CustomerMasterKeySpec master ≡ false → names_none KeySpec spec ≡ true
    → kind_of usage master spec ≡ Unsupported KeySpec
unfolding kind_of
spec_refused usage master spec known known' unknown = simp (known, known', unknown) refl

-- ---- the kinds of texts that are known

-- what kinds of texts that are absent or known answer
abbrev pub answer : Option KeyKind → Option KeyKind → Option KeyKind → KindRead
answer usage master spec = kind_of (option_map usage_text usage) (option_map spec_text master) (option_map spec_text spec)

-- the one spec of two
abbrev pub one_spec : Option KeyKind → Option KeyKind → KeyKind
one_spec master spec = unwrap_or (option_or spec master) Symmetric

pub specs_differ : (usage master spec : Option KeyKind) → (unwrap_or master (one_spec master spec) ≡ one_spec master spec → ⊥)
    → Unsupported KeySpec ≡ answer usage master spec
unfolding kind_of
specs_differ usage None spec not = absurd (not refl)
specs_differ usage (Some kind) None not = absurd (not refl)
specs_differ usage (Some Symmetric) (Some Symmetric) not = absurd (not refl)
specs_differ usage (Some Hmac256) (Some Hmac256) not = absurd (not refl)
specs_differ None (Some Symmetric) (Some Hmac256) not = refl
specs_differ None (Some Hmac256) (Some Symmetric) not = refl
specs_differ (Some Symmetric) (Some Symmetric) (Some Hmac256) not = refl
specs_differ (Some Symmetric) (Some Hmac256) (Some Symmetric) not = refl
specs_differ (Some Hmac256) (Some Symmetric) (Some Hmac256) not = refl
specs_differ (Some Hmac256) (Some Hmac256) (Some Symmetric) not = refl

pub usage_differs : (usage master spec : Option KeyKind) → unwrap_or master (one_spec master spec) ≡ one_spec master spec
    → (unwrap_or usage Symmetric ≡ one_spec master spec → ⊥) → Unsupported KeyUsage ≡ answer usage master spec
unfolding kind_of
usage_differs usage (Some Symmetric) (Some Hmac256) same not = cc
usage_differs usage (Some Hmac256) (Some Symmetric) same not = cc
usage_differs None (Some Hmac256) None same not = refl
usage_differs None None (Some Hmac256) same not = refl
usage_differs None (Some Hmac256) (Some Hmac256) same not = refl
usage_differs (Some Symmetric) (Some Hmac256) None same not = refl
usage_differs (Some Symmetric) None (Some Hmac256) same not = refl
usage_differs (Some Symmetric) (Some Hmac256) (Some Hmac256) same not = refl
usage_differs (Some Hmac256) None None same not = refl
usage_differs (Some Hmac256) (Some Symmetric) None same not = refl
usage_differs (Some Hmac256) None (Some Symmetric) same not = refl
usage_differs (Some Hmac256) (Some Symmetric) (Some Symmetric) same not = refl
usage_differs usage master spec same not = absurd (not refl)

pub all_agree : (usage master spec : Option KeyKind) → unwrap_or master (one_spec master spec) ≡ one_spec master spec
    → unwrap_or usage Symmetric ≡ one_spec master spec → Kind (one_spec master spec) ≡ answer usage master spec
unfolding kind_of
all_agree None None None same same' = refl
all_agree None (Some Symmetric) None same same' = refl
all_agree None None (Some Symmetric) same same' = refl
all_agree None (Some Symmetric) (Some Symmetric) same same' = refl
all_agree (Some Symmetric) None None same same' = refl
all_agree (Some Symmetric) (Some Symmetric) None same same' = refl
all_agree (Some Symmetric) None (Some Symmetric) same same' = refl
all_agree (Some Symmetric) (Some Symmetric) (Some Symmetric) same same' = refl
all_agree (Some Hmac256) (Some Hmac256) None same same' = refl
all_agree (Some Hmac256) None (Some Hmac256) same same' = refl
all_agree (Some Hmac256) (Some Hmac256) (Some Hmac256) same same' = refl
all_agree usage master spec same same' = cc

-- ---- the law

abbrev Law : Option (List ℕ) → Option (List ℕ) → Option (List ℕ) → KeyKind → Type 0
Law usage master spec kind = (kind_of usage master spec ≡ Kind kind) ↔ Fits usage master spec kind

-- a kind is no refusal, and kinds answered alike are one
abbrev kind_in : KindRead → KeyKind
kind_in (Kind kind) = kind
kind_in (Unsupported field) = Symmetric

abbrev is_kind : KindRead → Bool
is_kind (Kind kind) = true
is_kind (Unsupported field) = false

abbrev is_symmetric : KeyKind → Bool
is_symmetric Symmetric = true
is_symmetric Hmac256 = false

kind_one : {x y : KeyKind} → Kind x ≡ Kind y → x ≡ y
kind_one e = ap kind_in e

no_kind_refused : {field : KindField} {kind : KeyKind} → Unsupported field ≡ Kind kind → ⊥
no_kind_refused e = false≢true (ap is_kind e)

-- two kinds are one, or they differ
same_kind : (x y : KeyKind) → (x ≡ y) ⊎ (x ≡ y → ⊥)
same_kind Symmetric Symmetric = inl refl
same_kind Symmetric Hmac256 = inr (λ e. true≢false (ap is_symmetric e))
same_kind Hmac256 Symmetric = inr (λ e. false≢true (ap is_symmetric e))
same_kind Hmac256 Hmac256 = inl refl

-- kinds have texts of their own
usage_text_one : (x y : KeyKind) → usage_text x ≡ usage_text y → x ≡ y
usage_text_one Symmetric Symmetric e = refl
usage_text_one Symmetric Hmac256 e = let clash : false ≡ true = (bytes_eq-Decides (usage_text Symmetric) (usage_text Hmac256)).1 e in cc
usage_text_one Hmac256 Symmetric e = let clash : false ≡ true = (bytes_eq-Decides (usage_text Hmac256) (usage_text Symmetric)).1 e in cc
usage_text_one Hmac256 Hmac256 e = refl

spec_text_one : (x y : KeyKind) → spec_text x ≡ spec_text y → x ≡ y
spec_text_one Symmetric Symmetric e = refl
spec_text_one Symmetric Hmac256 e = let clash : false ≡ true = (bytes_eq-Decides (spec_text Symmetric) (spec_text Hmac256)).1 e in cc
spec_text_one Hmac256 Symmetric e = let clash : false ≡ true = (bytes_eq-Decides (spec_text Hmac256) (spec_text Symmetric)).1 e in cc
spec_text_one Hmac256 Hmac256 e = refl

-- the text of a kind or of another one is that of the kind meant
unwrap_or-text : (text : KeyKind → List ℕ) (o : Option KeyKind) (other : KeyKind)
    → unwrap_or (option_map text o) (text other) ≡ text (unwrap_or o other)
unwrap_or-text text None other = refl
unwrap_or-text text (Some kind) other = refl

-- the same of one of two
unwrap_or-texts : (text : KeyKind → List ℕ) (o p : Option KeyKind) (other : KeyKind)
    → unwrap_or (option_map text o) (unwrap_or (option_map text p) (text other)) ≡ text (unwrap_or o (unwrap_or p other))
unwrap_or-texts text o p other =
    ap (unwrap_or (option_map text o)) (unwrap_or-text text p other) ∙ unwrap_or-text text o (unwrap_or p other)

-- the one spec of two is the second, or else the first
one_spec-either : (master spec : Option KeyKind) → unwrap_or spec (unwrap_or master Symmetric) ≡ one_spec master spec
one_spec-either master None = refl
one_spec-either master (Some kind) = refl

-- where they agree it is the first, or else the second
one_spec-agreed : (master spec : Option KeyKind) → unwrap_or master (one_spec master spec) ≡ one_spec master spec
    → unwrap_or master (unwrap_or spec Symmetric) ≡ one_spec master spec
one_spec-agreed None None same = refl
one_spec-agreed None (Some kind) same = refl
one_spec-agreed (Some kind) spec same = same

-- where both are this kind they agree
specs_agree : (master spec : Option KeyKind) (kind : KeyKind) → unwrap_or master (unwrap_or spec Symmetric) ≡ kind
    → one_spec master spec ≡ kind → unwrap_or master (one_spec master spec) ≡ one_spec master spec
specs_agree None spec kind first second = refl
specs_agree (Some other) spec kind first second = first ∙ sym second

-- a kind that is answered fits
answered_fits : (usage master spec : Option KeyKind) (kind : KeyKind) → answer usage master spec ≡ Kind kind
    → Fits (option_map usage_text usage) (option_map spec_text master) (option_map spec_text spec) kind
answered_fits usage master spec kind e =
    elim (same_kind (unwrap_or master (one_spec master spec)) (one_spec master spec)) [
      | inr not ↦ absurd (no_kind_refused (specs_differ usage master spec not ∙ e))
      | inl same ↦
          elim (same_kind (unwrap_or usage Symmetric) (one_spec master spec)) [
            | inr not ↦ absurd (no_kind_refused (usage_differs usage master spec same not ∙ e))
            | inl same' ↦
                let is : one_spec master spec ≡ kind = kind_one (all_agree usage master spec same same' ∙ e) in
                record {
                  usage_own = unwrap_or-text usage_text usage Symmetric ∙ ap usage_text (same' ∙ is);
                  master_own = unwrap_or-texts spec_text master spec Symmetric ∙ ap spec_text (one_spec-agreed master spec same ∙ is);
                  spec_own = unwrap_or-texts spec_text spec master Symmetric ∙ ap spec_text (one_spec-either master spec ∙ is);
                }
          ]
    ]

-- a kind that fits is answered
fitting_answer : (usage master spec : Option KeyKind) (kind : KeyKind)
    → Fits (option_map usage_text usage) (option_map spec_text master) (option_map spec_text spec) kind
    → answer usage master spec ≡ Kind kind
fitting_answer usage master spec kind f =
    let usage_is : unwrap_or usage Symmetric ≡ kind =
    usage_text_one _ _ (sym (unwrap_or-text usage_text usage Symmetric) ∙ f.usage_own) in
    let master_is : unwrap_or master (unwrap_or spec Symmetric) ≡ kind =
    spec_text_one _ _ (sym (unwrap_or-texts spec_text master spec Symmetric) ∙ f.master_own) in
    let spec_is : one_spec master spec ≡ kind =
    sym (one_spec-either master spec) ∙ spec_text_one _ _ (sym (unwrap_or-texts spec_text spec master Symmetric) ∙ f.spec_own) in
    sym (all_agree usage master spec (specs_agree master spec kind master_is spec_is) (usage_is ∙ sym spec_is)) ∙ ap Kind spec_is

known_law : (usage master spec : Option KeyKind) (kind : KeyKind)
    → Law (option_map usage_text usage) (option_map spec_text master) (option_map spec_text spec) kind
known_law usage master spec kind = (answered_fits usage master spec kind, fitting_answer usage master spec kind)

-- an unknown text is no kind's
no_kind : (field : KindField) (o : Option (List ℕ)) (other : List ℕ) (kind : KeyKind) → names_none field o ≡ true
    → unwrap_or o other ≡ text_in field kind → ⊥
no_kind field None other kind unknown e = false≢true unknown
no_kind field (Some t) other kind unknown e = true≢false (sym unknown ∙ is_known field (Some t) (Some kind) (ap Some e))

-- where a field is refused no kind is answered, and none fits
refused_law : (usage master spec : Option (List ℕ)) (kind : KeyKind) (field : KindField)
    → kind_of usage master spec ≡ Unsupported field → (Fits usage master spec kind → ⊥) → Law usage master spec kind
refused_law usage master spec kind field refused no_fit = (
  λ e. absurd (no_kind_refused (sym refused ∙ e)),
  λ f. absurd (no_fit f),
)

pub law : KindOfFits
law usage master spec kind =
    by_field KeyUsage (λ u. Law u master spec kind) usage
    (λ a. by_field CustomerMasterKeySpec (λ m. Law (option_map usage_text a) m spec kind) master
    (λ b. by_field KeySpec (λ s. Law (option_map usage_text a) (option_map spec_text b) s kind) spec
    (λ c. known_law a b c kind)
    (λ s unknown.
    refused_law (option_map usage_text a) (option_map spec_text b) s kind KeySpec
    (spec_refused _ _ s (known_text KeyUsage a) (known_text CustomerMasterKeySpec b) unknown)
    (λ f. no_kind KeySpec s _ kind unknown f.spec_own)))
    (λ m unknown.
    refused_law (option_map usage_text a) m spec kind CustomerMasterKeySpec
    (master_refused _ m spec (known_text KeyUsage a) unknown)
    (λ f. no_kind CustomerMasterKeySpec m _ kind unknown f.master_own)))
    (λ u unknown.
    refused_law u master spec kind KeyUsage (usage_refused u master spec unknown)
    (λ f. no_kind KeyUsage u _ kind unknown f.usage_own))
