-- What follows of the value of an answer.
use Rattle.std.proofs.Common.{Result, Ok, Err, IfOk}

pub ok_where : {A E : Type 0} {P Q : A → Type 0} (r : Result A E) → ((v : A) → P v → Q v) → IfOk r P → IfOk r Q
ok_where (Ok v) h k = h v k
ok_where (Err e) h k = tt
