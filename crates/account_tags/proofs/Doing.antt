-- What the operations on tags do: no key has too many tags after them.
use Rattle.std.proofs.Common.{◌≡◌, ℕ, ◌≤◌, nat_lt, Bool, true, false, List, length, Option, Some, None, Ok, refl, sym, subst, if◌then◌else◌, arith}
use Rattle.std.proofs.lemmas.Bool.Decides.{nat_tests}
use Rattle.kms_json.specs.declared.refusals.Limit.TheVariants as limit
use Rattle.kms_json.specs.declared.refusals.Refusal.{Refusal}
use Rattle.kms_json.specs.declared.refusals.Refusal.TheVariants as refusal
use Rattle.resource_tags.specs.Tags.{Tags, with_tags}
use Rattle.resource_tags.specs.declared.tags.Tag.{Tag as TagValue}
use Rattle.tag_order.specs.Order.{in_order}
use Rattle.key_states.specs.declared.rows.KeyRow.{KeyRow}
use Rattle.account_rows.specs.History.{TagsFitOn}
use Rattle.account_rows.specs.declared.entries.What.{What}
use Rattle.account_rows.specs.declared.entries.What.TheVariants as what
use Rattle.account_steps.specs.Steps.{unless, improper}
use Rattle.account_steps.specs.View.{View}
use Rattle.account_steps.proofs.Done.{IsDone, DoesWell, does_this}
use Rattle.account_steps.proofs.Holding.{only_key_there}
use Rattle.account_steps.proofs.Passing.{next_of, none_of, ok_same}
use Rattle.account_tags.specs.Tagging.{too_many, has_some, tags_key, untags_key}

below_of : (b : Bool) (why : Refusal) → (if b then Some why else None) ≡ None → b ≡ false
below_of true why e = cc
below_of false why e = refl

few_of : (tags : Tags) (more : List TagValue) → too_many tags more ≡ None → length (with_tags tags more) ≤ 50
few_of tags more e = let no = below_of (nat_lt 50 (length (with_tags tags more))) (refusal.LimitExceeded limit.Tags) e in grind (arith, nat_tests, no)

pub tags : (view : View) (key_id : List ℕ) (more : List TagValue) → DoesWell view (tags_key view key_id more)
tags view key_id more found ready did found_is own_is e =
    let proper = next_of (improper more) (unless (too_many found.tags (in_order more)) (Ok (in_order more))) ready own_is in
    let few = few_of found.tags (in_order more) (none_of (too_many found.tags (in_order more)) (Ok (in_order more)) ready proper) in
    let same : in_order more ≡ ready = ok_same (in_order more) ready (next_of (too_many found.tags (in_order more)) (Ok (in_order more)) ready proper) in
    does_this view (what.Tag found.key ready) did (record {
      made = tt;
      gives = tt;
      holds = tt;
      tagged = subst (λ (o : Option KeyRow). TagsFitOn o ready) (sym (only_key_there view key_id found found_is)) (subst (λ (t : List TagValue). length (with_tags found.tags t) ≤ 50) same few);
    }) e

untagged_by : (view : View) (b : Bool) (row : KeyRow) (keys : List (List ℕ)) (did : What) → (if b then Some (what.Untag row.key keys) else None) ≡ Some did → IsDone view did
untagged_by view true row keys did e = does_this view (what.Untag row.key keys) did (record { made = tt; gives = tt; holds = tt; tagged = tt }) e
untagged_by view false row keys did e = cc

pub untags : (view : View) (key_id : List ℕ) (keys : List (List ℕ)) → DoesWell view (untags_key view key_id keys)
untags view key_id keys found ready did found_is own_is e = untagged_by view (has_some found.tags keys) found keys did e
