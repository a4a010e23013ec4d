-- The JSON values of entries are plain, and nest three deep at most.
use Rattle.std.proofs.Common.{◌≡◌, ℕ, ◌<◌, ◌≤◌, ◌^◌, List, [], ◌∷◌, codes, map, true, Option, Some, None, refl, arith}
use Rattle.std.specs.Option.{option_map, IfSome}
use Rattle.std.specs.Cmp.Lexicographic.{slice_cmp}
use Rattle.std.specs.Ordering.{nat_cmp}
use Rattle.std.specs.declared.cmp.Ordering.TheVariants.{Less}
use Rattle.std.proofs.lemmas.Str.{IsUtf8-from_ascii}
use Rattle.base64.specs.Engines.{standard}
use Rattle.base64.proofs.EngineFacts.{IsAscii-encode_of}
use Rattle.hex.specs.Hex.{encode_lower, lower_digits}
use Rattle.hmac_keys.specs.declared.kinds.KeyKind.{KeyKind}
use Rattle.hmac_keys.specs.declared.kinds.KeyKind.TheVariants.{Symmetric, Hmac256}
use Rattle.kms_names.specs.declared.operations.GrantOp.{GrantOp}
use Rattle.kms_names.specs.declared.operations.GrantOp.TheVariants.{Encrypt, Decrypt, GenerateDataKey, GenerateDataKeyWithoutPlaintext, ReEncryptFrom, ReEncryptTo, CreateGrant, RetireGrant, DescribeKey, GenerateMac, VerifyMac}
use Rattle.kms_names.specs.GrantOps.{members, grant_op_name}
use Rattle.grant_table.specs.declared.constraints.Constraint.{Constraint}
use Rattle.grant_table.specs.declared.constraints.Constraint.TheVariants.{Free, Equals, Subset}
use Rattle.resource_tags.specs.declared.tags.Tag.{Tag}
use Rattle.json.proofs.Printed.Utf8.{are_ascii, IsUtf8-are_ascii}
use Rattle.serde_json.specs.Data.{Data, Members, member, no_members, string, depth, members_depth, items_depth}
use Rattle.serde_json.specs.View.{items_of}
use Rattle.kms_json.specs.Objects.{base64_text, with_any}
use Rattle.kms_json.specs.GrantReplies.{operations_data}
use Rattle.account_rows.specs.declared.entries.Entry.{Entry}
use Rattle.account_rows.specs.declared.entries.What.{What}
use Rattle.account_rows.specs.declared.entries.What.TheVariants as what
use Rattle.journal_lines.specs.Values.{base64_data, hex_data, principal_data, kind_name, tag_data, tags_data, equals_data, subset_data}
use Rattle.journal_lines.specs.Lines.{stamped, entry_members, entry_data}
use Rattle.journal_lines.specs.Forms.{IsWhat, IsEntry, IsSmall}
use Rattle.journal_lines.proofs.JsonFacts.{IsPlain, ArePlain, AreMembersPlain, IsBelow}
use Rattle.kms_names.proofs.AsciiFacts.{IsAscii-lower_digits}
use Rattle.hex.proofs.HexLemmas.{IsAscii-encode_with}

-- ---- texts

base64_plain : (bytes : List ℕ) → IsPlain (base64_data bytes)
unfolding base64_text
base64_plain bytes = IsUtf8-from_ascii _ (IsAscii-encode_of standard bytes)

hex_plain : (bytes : List ℕ) → IsPlain (hex_data bytes)
hex_plain bytes = IsUtf8-from_ascii (encode_lower bytes) (IsAscii-encode_with lower_digits bytes IsAscii-lower_digits)

kind_plain : (kind : KeyKind) → IsPlain (string (kind_name kind))
kind_plain Symmetric = IsUtf8-are_ascii _ refl
kind_plain Hmac256 = IsUtf8-are_ascii _ refl

op_plain : (op : GrantOp) → IsPlain (string (grant_op_name op))
op_plain Encrypt = IsUtf8-are_ascii _ refl
op_plain Decrypt = IsUtf8-are_ascii _ refl
op_plain GenerateDataKey = IsUtf8-are_ascii _ refl
op_plain GenerateDataKeyWithoutPlaintext = IsUtf8-are_ascii _ refl
op_plain ReEncryptFrom = IsUtf8-are_ascii _ refl
op_plain ReEncryptTo = IsUtf8-are_ascii _ refl
op_plain CreateGrant = IsUtf8-are_ascii _ refl
op_plain RetireGrant = IsUtf8-are_ascii _ refl
op_plain DescribeKey = IsUtf8-are_ascii _ refl
op_plain GenerateMac = IsUtf8-are_ascii _ refl
op_plain VerifyMac = IsUtf8-are_ascii _ refl

list_plain : {A : Type 0} (f : A → Data) → ((a : A) → IsPlain (f a)) → (rows : List A) → ArePlain (items_of (map f rows))
list_plain f h [] = tt
list_plain f h (row ∷ rows) = (h row, list_plain f h rows)

-- ---- members

-- plain members
record Plain (ms : Members) : Type 0 where
  are : AreMembersPlain ms

one : (text : List ℕ) (d : Data) (ms : Members) → are_ascii text ≡ true → IsPlain d → IsBelow text ms → Plain ms → Plain (member text d ms)
one text d ms ascii plain below rest = record { are = (IsUtf8-are_ascii text ascii, plain, below, rest.are) }

last : Plain no_members
last = record { are = tt }

below_any : (text other : List ℕ) (o : Option Data) (ms : Members) → slice_cmp nat_cmp text other ≡ Less → IsBelow text ms → IsBelow text (with_any other o ms)
below_any text other None ms less below = below
below_any text other (Some d) ms less below = (less, below)

any : (text : List ℕ) (o : Option Data) (ms : Members) → are_ascii text ≡ true → IfSome o IsPlain → IsBelow text ms → Plain ms → Plain (with_any text o ms)
any text None ms ascii plain below rest = rest
any text (Some d) ms ascii plain below rest = one text d ms ascii plain below rest

tag_plain : (tag : Tag) → IsPlain (tag_data tag)
tag_plain tag =
    let value : Plain (member (codes "value") (base64_data tag.value) no_members) = one _ _ _ refl (base64_plain tag.value) tt last in
    let both : Plain (member (codes "key") (base64_data tag.key) (member (codes "value") (base64_data tag.value) no_members)) = one _ _ _ refl (base64_plain tag.key) (refl, tt) value in
    both.are

tags_plain : (tags : List Tag) → IsPlain (tags_data tags)
tags_plain tags = list_plain tag_data tag_plain tags

module _ (time : ℕ) (fits : time < 2 ^ 64) where
  stamp : (text : List ℕ) → are_ascii text ≡ true → Plain (stamped time text)
  stamp text ascii = one _ _ _ refl fits (refl, tt) (one _ _ no_members refl (IsUtf8-are_ascii text ascii) tt last)

  alone : (text key : List ℕ) → are_ascii text ≡ true → Plain (member (codes "key") (hex_data key) (stamped time text))
  alone text key ascii = one _ _ _ refl (hex_plain key) (refl, (refl, tt)) (stamp text ascii)

  mapped : {A : Type 0} (f : A → Data) → ((a : A) → IsPlain (f a)) → (o : Option A) → IfSome (option_map f o) IsPlain
  mapped f h None = tt
  mapped f h (Some a) = h a

  equals_plain : (c : Constraint) → IfSome (equals_data c) IsPlain
  equals_plain Free = tt
  equals_plain (Equals pairs) = base64_plain _
  equals_plain (Subset pairs) = tt

  subset_plain : (c : Constraint) → IfSome (subset_data c) IsPlain
  subset_plain Free = tt
  subset_plain (Equals pairs) = tt
  subset_plain (Subset pairs) = base64_plain _

  fits_small : (n : ℕ) → IsSmall n → n < 2 ^ 64
  fits_small n small = omega arith

  members_plain : (w : What) → IsWhat w → Plain (entry_members time w)
  members_plain (what.CreateKey key kind description policy tags) h =
      one _ _ _ refl (base64_plain description) (refl, (refl, (refl, (refl, (refl, (refl, tt))))))
      (one _ _ _ refl (hex_plain key) (refl, (refl, (refl, (refl, (refl, tt)))))
      (one _ _ _ refl (kind_plain kind) (refl, (refl, (refl, (refl, tt))))
      (one _ _ _ refl (base64_plain policy) (refl, (refl, (refl, tt)))
      (one _ _ _ refl (tags_plain tags) (refl, (refl, tt)) (stamp _ refl)))))
  members_plain (what.Enable key) h = alone _ key refl
  members_plain (what.Disable key) h = alone _ key refl
  members_plain (what.Schedule key date days) h =
      one _ _ _ refl h.1 (refl, (refl, (refl, (refl, tt)))) (one _ _ _ refl (fits_small days h.2) (refl, (refl, (refl, tt))) (alone _ key refl))
  members_plain (what.Cancel key) h = alone _ key refl
  members_plain (what.RotationOn key period) h =
      one _ _ _ refl (hex_plain key) (refl, (refl, (refl, tt))) (one _ _ _ refl (fits_small period h.1) (refl, (refl, tt)) (stamp _ refl))
  members_plain (what.RotationOff key) h = alone _ key refl
  members_plain (what.RotateNow key) h = alone _ key refl
  members_plain (what.Policy key text) h =
      one _ _ _ refl (hex_plain key) (refl, (refl, (refl, tt))) (one _ _ _ refl (base64_plain text) (refl, (refl, tt)) (stamp _ refl))
  members_plain (what.Description key text) h =
      one _ _ _ refl (hex_plain key) (refl, (refl, (refl, tt))) (one _ _ _ refl (base64_plain text) (refl, (refl, tt)) (stamp _ refl))
  members_plain (what.Tag key tags) h =
      one _ _ _ refl (hex_plain key) (refl, (refl, (refl, tt))) (one _ _ _ refl (tags_plain tags) (refl, (refl, tt)) (stamp _ refl))
  members_plain (what.Untag key keys) h =
      one _ _ _ refl (hex_plain key) (refl, (refl, (refl, tt))) (one _ _ _ refl (list_plain base64_data base64_plain keys) (refl, (refl, tt)) (stamp _ refl))
  members_plain (what.AliasPut name key) h =
      one _ _ _ refl (hex_plain key) (refl, (refl, (refl, tt))) (one _ _ _ refl (base64_plain name) (refl, (refl, tt)) (stamp _ refl))
  members_plain (what.AliasDrop name) h = one _ _ _ refl (base64_plain name) (refl, (refl, tt)) (stamp _ refl)
  members_plain (what.GrantAdd grant key grantee retiring operations constraint name) h =
      let subset : Members = with_any (codes "subset") (subset_data constraint) (stamped time (codes "GrantAdd")) in
      let retire : Members = with_any (codes "retiring") (option_map principal_data retiring) subset in
      let ops : Members = member (codes "operations") (operations_data operations) retire in
      let names : Members = with_any (codes "name") (option_map base64_data name) ops in
      let from_subset : (text : List ℕ) → slice_cmp nat_cmp text (codes "subset") ≡ Less → IsBelow text (stamped time (codes "GrantAdd")) → IsBelow text subset =
      λ text less below. below_any text (codes "subset") (subset_data constraint) _ less below in
      let from_retire : (text : List ℕ) → slice_cmp nat_cmp text (codes "retiring") ≡ Less → IsBelow text subset → IsBelow text retire =
      λ text less below. below_any text (codes "retiring") (option_map principal_data retiring) subset less below in
      let from_names : (text : List ℕ) → slice_cmp nat_cmp text (codes "name") ≡ Less → IsBelow text ops → IsBelow text names =
      λ text less below. below_any text (codes "name") (option_map base64_data name) ops less below in
      any (codes "equals") (equals_data constraint) _ refl (equals_plain constraint) (refl, (refl, (refl, (from_names (codes "equals") refl (refl, (from_retire (codes "equals") refl (from_subset (codes "equals") refl (refl, (refl, tt)))))))))
      (one _ _ _ refl (hex_plain grant) (refl, (refl, (from_names (codes "grant") refl (refl, (from_retire (codes "grant") refl (from_subset (codes "grant") refl (refl, (refl, tt))))))))
      (one _ _ _ refl (base64_plain _) (refl, (from_names (codes "grantee") refl (refl, (from_retire (codes "grantee") refl (from_subset (codes "grantee") refl (refl, (refl, tt)))))))
      (one _ _ _ refl (hex_plain key) (from_names (codes "key") refl (refl, (from_retire (codes "key") refl (from_subset (codes "key") refl (refl, (refl, tt))))))
      (any (codes "name") (option_map base64_data name) ops refl (mapped base64_data base64_plain name) (refl, (from_retire (codes "name") refl (from_subset (codes "name") refl (refl, (refl, tt)))))
      (one _ _ _ refl (list_plain (λ (op : GrantOp). string (grant_op_name op)) op_plain (members operations)) (from_retire (codes "operations") refl (from_subset (codes "operations") refl (refl, (refl, tt))))
      (any (codes "retiring") (option_map principal_data retiring) subset refl (mapped principal_data (λ p. base64_plain _) retiring) (from_subset (codes "retiring") refl (refl, (refl, tt)))
      (any (codes "subset") (subset_data constraint) _ refl (subset_plain constraint) (refl, (refl, tt)) (stamp _ refl))))))))
  members_plain (what.GrantDrop grant) h = one _ _ _ refl (hex_plain grant) (refl, (refl, tt)) (stamp _ refl)
  members_plain what.House h = stamp _ refl

pub entry_plain : (entry : Entry) → IsEntry entry → IsPlain (entry_data entry)
entry_plain entry h = (members_plain entry.time h.0 entry.what h.1).are

-- ---- how deep

list_depth : {A : Type 0} (f : A → Data) (n : ℕ) → ((a : A) → depth (f a) ≤ n) → (rows : List A) → items_depth (items_of (map f rows)) ≤ n
list_depth f n h [] = omega arith
list_depth f n h (row ∷ rows) = omega (arith, h row, list_depth f n h rows)

any_depth : (text : List ℕ) (o : Option Data) (ms : Members) (n : ℕ) → IfSome o (λ d. depth d ≤ n) → members_depth ms ≤ n → members_depth (with_any text o ms) ≤ n
any_depth text None ms n h k = k
any_depth text (Some d) ms n h k = omega arith

equals_depth : (c : Constraint) → IfSome (equals_data c) (λ d. depth d ≤ 2)
equals_depth Free = tt
equals_depth (Equals pairs) = omega arith
equals_depth (Subset pairs) = tt

subset_depth : (c : Constraint) → IfSome (subset_data c) (λ d. depth d ≤ 2)
subset_depth Free = tt
subset_depth (Equals pairs) = tt
subset_depth (Subset pairs) = omega arith

mapped_depth : {A : Type 0} (f : A → Data) → ((a : A) → depth (f a) ≤ 2) → (o : Option A) → IfSome (option_map f o) (λ d. depth d ≤ 2)
mapped_depth f h None = tt
mapped_depth f h (Some a) = h a

what_depth : (time : ℕ) (w : What) → members_depth (entry_members time w) ≤ 2
what_depth time (what.CreateKey key kind description policy tags) = omega (arith, list_depth tag_data 1 (λ _. omega arith) tags)
what_depth time (what.Enable key) = omega arith
what_depth time (what.Disable key) = omega arith
what_depth time (what.Schedule key date days) = omega arith
what_depth time (what.Cancel key) = omega arith
what_depth time (what.RotationOn key period) = omega arith
what_depth time (what.RotationOff key) = omega arith
what_depth time (what.RotateNow key) = omega arith
what_depth time (what.Policy key text) = omega arith
what_depth time (what.Description key text) = omega arith
what_depth time (what.Tag key tags) = omega (arith, list_depth tag_data 1 (λ _. omega arith) tags)
what_depth time (what.Untag key keys) = omega (arith, list_depth base64_data 0 (λ _. omega arith) keys)
what_depth time (what.AliasPut name key) = omega arith
what_depth time (what.AliasDrop name) = omega arith
what_depth time (what.GrantAdd grant key grantee retiring operations constraint name) =
    let subset : Members = with_any (codes "subset") (subset_data constraint) (stamped time (codes "GrantAdd")) in
    let retire : Members = with_any (codes "retiring") (option_map principal_data retiring) subset in
    let ops : Members = member (codes "operations") (operations_data operations) retire in
    let names : Members = with_any (codes "name") (option_map base64_data name) ops in
    let rest : Members = member (codes "grant") (hex_data grant) (member (codes "grantee") (principal_data grantee) (member (codes "key") (hex_data key) names)) in
    let in_subset : members_depth subset ≤ 2 = any_depth (codes "subset") (subset_data constraint) _ 2 (subset_depth constraint) (omega arith) in
    let in_retire : members_depth retire ≤ 2 = any_depth (codes "retiring") (option_map principal_data retiring) subset 2 (mapped_depth principal_data (λ _. omega arith) retiring) in_subset in
    let listed = list_depth (λ (op : GrantOp). string (grant_op_name op)) 0 (λ _. omega arith) (members operations) in
    let in_ops : members_depth ops ≤ 2 = omega arith in
    let in_names : members_depth names ≤ 2 = any_depth (codes "name") (option_map base64_data name) ops 2 (mapped_depth base64_data (λ _. omega arith) name) in_ops in
    let in_rest : members_depth rest ≤ 2 = omega arith in
    any_depth (codes "equals") (equals_data constraint) rest 2 (equals_depth constraint) in_rest
what_depth time (what.GrantDrop grant) = omega arith
what_depth time what.House = omega arith

pub entry_depth : (entry : Entry) → depth (entry_data entry) ≤ 127
entry_depth entry = omega (arith, what_depth entry.time entry.what)
