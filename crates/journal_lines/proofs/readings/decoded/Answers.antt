use Rattle.std.proofs.Common.{◌≡◌, ℕ, List, Some, Ok, Err, ap, sym, subst, ◌∙◌}
use Rattle.std.specs.Result.{result_ok}
use Rattle.base64.specs.declared.decode.DecodeAllocError.{DecodeAllocError}
use Rattle.base64.specs.Engines.{standard}
use Rattle.base64.specs.GeneralPurpose.{decode_of, decoded_of, IsDecodeFailure}
use Rattle.journal_lines.proofs.readings.decoded.Goals as goal

pub returns-in-Ok : goal.returns-in-Ok
unfolding decoded_of
returns-in-Ok c =
    ap Some c.new.ensures
    ∙ sym (ap result_ok (subst (λ (t : List ℕ). decode_of standard t ≡ Ok c.in-Ok.bytes.items) c.as_bytes.ensures.value c.in-Ok.ensures.ok))

pub returns-in-Err-DecodeError : goal.returns-in-Err-DecodeError
unfolding decoded_of
returns-in-Err-DecodeError c =
    let text = c.as_bytes.result.now in
    let failed : decode_of standard text ≡ Err c.in-Err-DecodeError.field-0-0 = subst (λ (e : DecodeAllocError). IsDecodeFailure standard text e) c.in-Err-DecodeError.field-0-is c.in-Err-DecodeError.ensures.err in
    sym (ap result_ok (subst (λ (t : List ℕ). decode_of standard t ≡ Err c.in-Err-DecodeError.field-0-0) c.as_bytes.ensures.value failed))
