use Rattle.std.proofs.Common.{◌≡◌, ℕ, List, ◌++◌, ap, ◌∙◌, append_assoc}
use Rattle.key_policies.specs.KeyPolicy.{default_front, default_back, default_text}
use Rattle.key_policies.proofs.policies.default_policy_text.Goals as goal

text_made : (front account printed back one two three : List ℕ) → one ≡ front → printed ≡ account → two ≡ one ++ printed → three ≡ two ++ back → three ≡ front ++ (account ++ back)
text_made front account printed back one two three a is b c =
    c ∙ ap (λ (t : List ℕ). t ++ back) (b ∙ ap (λ (t : List ℕ). t ++ printed) a ∙ ap (λ (t : List ℕ). front ++ t) is) ∙ append_assoc front account back

pub returns : goal.returns
unfolding default_text default_front default_back
returns c =
    c.from_string.ensures
    ∙ text_made default_front c.args.account.now c.as_str.result.now default_back _ _ _ c.in_ok-text.ensures.ok c.as_str.ensures.value c.in_ok-push_str.ensures.bytes
    c.in_ok-push_str-2.ensures.bytes
