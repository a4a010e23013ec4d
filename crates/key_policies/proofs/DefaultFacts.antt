-- The text of a default policy.
use Rattle.std.proofs.Common.{◌≡◌, ◌≢◌, ℕ, Bool, true, false, List, ◌++◌, sym, ap, ◌∙◌}
use Rattle.std.proofs.lemmas.List.{append_cancel_left}
use Rattle.std.proofs.lemmas.Slice.Eq.{bytes_eq-Decides}
use Rattle.std.specs.Bool.{Decides}
use Rattle.std.specs.Str.{bytes_eq}
use Rattle.key_policies.specs.KeyPolicy.{default_front, default_back, default_text}

-- ---- whether a text is the default policy of an account

pub no_front : (text account : List ℕ) → ((rest : List ℕ) → text ≢ default_front ++ rest) → Decides false (text ≡ default_text account)
unfolding default_text
no_front text account none = (λ (bad : false ≡ true). cc, λ is. absurd (none (account ++ default_back) is))

pub no_account : (text behind account : List ℕ) → text ≡ default_front ++ behind → ((rest : List ℕ) → behind ≢ account ++ rest) → Decides false (text ≡ default_text account)
unfolding default_text
no_account text behind account front none =
    (λ (bad : false ≡ true). cc, λ is. absurd (none default_back (append_cancel_left default_front behind (account ++ default_back) (sym front ∙ is))))

pub by_back : (text behind account back : List ℕ) (same : Bool) → text ≡ default_front ++ behind → behind ≡ account ++ back → same ≡ bytes_eq back default_back → Decides same (text ≡ default_text account)
unfolding default_text
by_back text behind account back same front middle is =
    let decides = bytes_eq-Decides back default_back in (
      λ yes. front ∙ ap (λ (t : List ℕ). default_front ++ t) (middle ∙ ap (λ (t : List ℕ). account ++ t) (decides.0 (sym is ∙ yes))),
      λ whole. is ∙ decides.1 (append_cancel_left account back default_back (sym middle ∙ append_cancel_left default_front behind (account ++ default_back) (sym front ∙ whole))),
    )
