-- What a message asks is proper.
use Rattle.std.proofs.Common.{◌≡◌, ℕ, List, Result, Ok, Err, refl, subst, codes}
use Rattle.std.specs.Prelude.{IfOk}
use Rattle.kms_names.specs.declared.principals.Principal.{Principal}
use Rattle.kms_names.specs.Principal.{account_of}
use Rattle.kms_json.specs.declared.asks.Ask.{Ask}
use Rattle.kms_json.specs.declared.asks.AskBody.{AskBody}
use Rattle.kms_json.specs.declared.refusals.Refusal.{Refusal}
use Rattle.http_front.specs.Heading.{values_of}
use Rattle.http_front.specs.Message.{Message}
use Rattle.sigv4_check.specs.declared.faults.AuthFault.{AuthFault}
use Rattle.session_front.specs.declared.asked.After.{After}
use Rattle.session_front.specs.declared.asked.After.TheVariants.{Entries, Malformed}
use Rattle.session_front.specs.declared.refused.Early.{Early}
use Rattle.session_front.specs.declared.trust.Trust.{Trust}
use Rattle.session_front.specs.Asked.{asked_once, asked_in, after_in}
use Rattle.session_front.specs.Callers.{caller_of, IsOfAccount}
use Rattle.session_front.specs.Early.{ask_by, ask_from, ask_of, IsAskOrWants, IsAskAt}
use Rattle.session_front.proofs.AskedLemmas.{once_asked}
use Rattle.session_front.proofs.Signers.{caller_is_of}

module _ (account : List ℕ) (c : ℕ) (x : Ask) where
  ask_at : (caller : Principal) → account_of caller ≡ account → (values : List (List ℕ)) (text : List ℕ) (r : Result AskBody Refusal) (after : After)
      → asked_once values text ≡ r → ask_by caller c r after ≡ Ok x → IsAskAt account c x
  ask_at caller of values text (Ok body) (Entries after) is e =
      let same : ◌≡◌ {A = Ask} (record { body = body; caller = caller; moment = c; after = after }) x = cc in
      let target = once_asked values text body is in
      subst (IsAskAt account c) same (record { target = target.0; text = text; body = target.1; caller = of; moment = refl })
  ask_at caller of values text (Ok body) Malformed is e = cc
  ask_at caller of values text (Err refusal) after is e = cc

  ask_from_at : (trust : Trust) (region : List ℕ) (m : Message) (r : Result Principal AuthFault) → IsOfAccount account trust → caller_of trust region m c ≡ r → ask_from r m c ≡ Ok x
      → IsAskAt account c x
  ask_from_at trust region m (Ok caller) of is e =
      ask_at caller (caller_is_of account trust region m c caller of is) (values_of (codes "X-Amz-Target") m.head) m.body (asked_in m) (after_in m) refl e
  ask_from_at trust region m (Err why) of is e = cc

  pub is_ask_at : (trust : Trust) (region : List ℕ) (m : Message) → IsOfAccount account trust → ask_of trust region m c ≡ Ok x → IsAskAt account c x
  is_ask_at trust region m of e = ask_from_at trust region m (caller_of trust region m c) of refl e

-- the same of what is answered by one who asks
pub proper_if_ok : (account : List ℕ) (c : ℕ) (caller : Principal) (m : Message) (r : Result Ask Early) → account_of caller ≡ account → IsAskOrWants (ask_by caller c (asked_in m) (after_in m)) r
    → IfOk r (IsAskAt account c)
proper_if_ok account c caller m (Ok x) of wants = ask_at account c x caller of (values_of (codes "X-Amz-Target") m.head) m.body (asked_in m) (after_in m) refl wants
proper_if_ok account c caller m (Err why) of wants = tt
