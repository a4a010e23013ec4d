-- The names of a set of operations name that set.
use Rattle.std.proofs.Common.{◌≡◌, ℕ, List, [], ◌∷◌, map, Bool, true, false, cond, Option, Some, refl, sym, ap, ◌∙◌}
use Rattle.std.specs.Prelude.{◌||◌, ◌&&◌, filter}
use Rattle.std.specs.List.{list_any}
use Rattle.std.specs.Option.{option_map}
use Rattle.std.specs.Str.{bytes_eq}
use Rattle.std.proofs.Math.Bool.{and-false, and-true, or-false}
use Rattle.kms_names.specs.declared.operations.GrantOp.{GrantOp}
use Rattle.kms_names.specs.declared.operations.GrantOp.TheVariants.{Encrypt, Decrypt, GenerateDataKey, GenerateDataKeyWithoutPlaintext, ReEncryptFrom, ReEncryptTo, CreateGrant, RetireGrant, DescribeKey, GenerateMac, VerifyMac}
use Rattle.kms_names.specs.GrantOps.{all_grant_ops, grant_op_name, contains, is_named, members, those}
use Rattle.serde_json.specs.Data.{string}
use Rattle.serde_json.specs.View.{items_of}
use Rattle.kms_json.specs.Fields.{texts_in_items}
use Rattle.kms_json.specs.GrantReplies.{operations_data}
use Rattle.journal_lines.specs.Readings.{operations_in}
use Rattle.journal_lines.specs.Forms.{IsOperations}

-- one of these operations is in the set and has the name
found : (GrantOp → Bool) → List ℕ → List GrantOp → Bool
found p word ops = list_any (λ op. p op && bytes_eq (grant_op_name op) word) ops

found_in : (p : GrantOp → Bool) (word : List ℕ) (ops : List GrantOp)
    → list_any (λ name. bytes_eq name word) (map grant_op_name (filter p ops)) ≡ list_any (λ op. p op && bytes_eq (grant_op_name op) word) ops
found_in p word [] = refl
found_in p word (op ∷ ops) =
    elim (p op) as (λ b. list_any (λ name. bytes_eq name word) (map grant_op_name (cond b (op ∷ filter p ops) (filter p ops))) ≡ (b && bytes_eq (grant_op_name op) word) || list_any (λ op. p op && bytes_eq (grant_op_name op) word) ops) [
      | true ↦ ap (λ (b : Bool). bytes_eq (grant_op_name op) word || b) (found_in p word ops)
      | false ↦ found_in p word ops
    ]

one_found : (p : GrantOp → Bool) (op : GrantOp) → list_any (λ other. p other && bytes_eq (grant_op_name other) (grant_op_name op)) all_grant_ops ≡ p op
one_found p Encrypt = simp (and-false, and-true, or-false)
one_found p Decrypt = simp (and-false, and-true, or-false)
one_found p GenerateDataKey = simp (and-false, and-true, or-false)
one_found p GenerateDataKeyWithoutPlaintext = simp (and-false, and-true, or-false)
one_found p ReEncryptFrom = simp (and-false, and-true, or-false)
one_found p ReEncryptTo = simp (and-false, and-true, or-false)
one_found p CreateGrant = simp (and-false, and-true, or-false)
one_found p RetireGrant = simp (and-false, and-true, or-false)
one_found p DescribeKey = simp (and-false, and-true, or-false)
one_found p GenerateMac = simp (and-false, and-true, or-false)
one_found p VerifyMac = simp (and-false, and-true, or-false)

named_as : (ops : ℕ) (op : GrantOp) → is_named (map grant_op_name (members ops)) op ≡ contains ops op
named_as ops op = found_in (contains ops) (grant_op_name op) all_grant_ops ∙ one_found (contains ops) op

names_read : (ops : List GrantOp) → texts_in_items (items_of (map (λ op. string (grant_op_name op)) ops)) ≡ Some (map grant_op_name ops)
names_read [] = refl
names_read (op ∷ ops) = ap (λ (o : Option (List (List ℕ))). option_map (λ texts. grant_op_name op ∷ texts) o) (names_read ops)

pub operations_read : (ops : ℕ) → IsOperations ops → operations_in (operations_data ops) ≡ Some ops
operations_read ops form =
    ap (λ (o : Option (List (List ℕ))). option_map (λ names. those (is_named names)) o) (names_read (members ops))
    ∙ ap Some ((λ i. those (λ op. named_as ops op i)) ∙ sym form)
