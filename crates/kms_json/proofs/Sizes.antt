-- The sizes of what a proper request asks: for each operation with bounds of its own, which of its fields keeps to which.
use Rattle.std.proofs.Common.{◌≡◌, ℕ, List, codes, Option, Some, None, Ok, subst, ◌∙◌, arith}
use Rattle.serde_json.specs.Data.{Data}
use Rattle.serde_json.specs.Find.{get}
use Rattle.kms_json.specs.declared.asks.AskBody.{AskBody}
use Rattle.kms_json.specs.declared.given.Given.{Given}
use Rattle.kms_json.specs.declared.operations.Operation.{Operation}
use Rattle.kms_json.specs.declared.operations.Operation.TheVariants as op
use Rattle.kms_json.specs.Operations.{operation_named, fields_of, built}
use Rattle.kms_json.specs.Building.{held}
use Rattle.kms_json.specs.Asks.{IsSized, body_data, is_object, asked_by, asked_where, asked}
use Rattle.kms_json.proofs.ValueLemmas.{value_in}
use Rattle.kms_json.proofs.BuildLemmas.{asked_is}
use Rattle.kms_json.proofs.ReadFacts.{IsRead, of_object, AreKept, are_kept}
use Rattle.kms_json.proofs.KindFacts.{text_there, bytes_there, number_there, alias_there, text_within, text_if_within, number_within, name_within, tags_there, tags_within, constraint_sized, sized_within}

sized : (operation : Operation) (d : Data) (values : List Given) → AreKept (fields_of operation) d values → IsSized (built operation (held (fields_of operation) values))
sized op.CreateKey d vs kept = (text_within 8192 (value_in 1 vs) kept.1.0.1, tags_within (value_in 8 vs) kept.1.1.1.1.1.1.1.1.0.1)
sized op.UpdateKeyDescription d vs kept = (text_there 0 8192 (value_in 1 vs) kept.1.0.1).1
sized op.ScheduleKeyDeletion d vs kept = number_within 7 30 30 (omega arith) (omega arith) (value_in 1 vs) kept.1.0.1
sized op.EnableKeyRotation d vs kept = number_within 90 2560 365 (omega arith) (omega arith) (value_in 1 vs) kept.1.0.1
sized op.CreateAlias d vs kept = alias_there (value_in 0 vs) kept.0.1
sized op.UpdateAlias d vs kept = alias_there (value_in 0 vs) kept.0.1
sized op.DeleteAlias d vs kept = alias_there (value_in 0 vs) kept.0.1
sized op.CreateGrant d vs kept =
    ((text_there 1 256 (value_in 1 vs) kept.1.0.1).1, text_if_within 1 256 (value_in 2 vs) kept.1.1.0.1, name_within (value_in 6 vs) kept.1.1.1.1.1.1.0.1, constraint_sized (get (codes "Constraints") d) (value_in 4 vs) kept.1.1.1.1.0.0)
sized op.ListKeys d vs kept = number_within 1 1000 100 (omega arith) (omega arith) (value_in 0 vs) kept.0.1
sized op.ListKeyPolicies d vs kept = number_within 1 1000 100 (omega arith) (omega arith) (value_in 1 vs) kept.1.0.1
sized op.ListKeyRotations d vs kept = number_within 1 1000 100 (omega arith) (omega arith) (value_in 1 vs) kept.1.0.1
sized op.ListAliases d vs kept = number_within 1 100 50 (omega arith) (omega arith) (value_in 1 vs) kept.1.0.1
sized op.ListGrants d vs kept = number_within 1 100 50 (omega arith) (omega arith) (value_in 1 vs) kept.1.0.1
sized op.ListRetirableGrants d vs kept = number_within 1 100 50 (omega arith) (omega arith) (value_in 1 vs) kept.1.0.1
sized op.ListResourceTags d vs kept = number_within 1 50 50 (omega arith) (omega arith) (value_in 1 vs) kept.1.0.1
sized op.TagResource d vs kept = tags_there (value_in 1 vs) kept.1.0.1
sized op.Encrypt d vs kept = bytes_there 1 4096 (value_in 1 vs) kept.1.0.1
sized op.GenerateDataKey d vs kept = sized_within d (value_in 3 vs) (value_in 2 vs) kept.1.1.1.0.0 kept.1.1.0.1
sized op.GenerateDataKeyWithoutPlaintext d vs kept = sized_within d (value_in 2 vs) (value_in 3 vs) kept.1.1.0.0 kept.1.1.1.0.1
sized op.GenerateRandom d vs kept = number_there 1 1024 (value_in 0 vs) kept.0.1
sized _ d vs kept = tt

of_operation : (operation : Operation) (d : Data) (body : AskBody) → IsRead operation d body → IsSized body
of_operation operation d body is =
    subst IsSized (asked_is operation d is.values is.read ∙ is.made) (sized operation d is.values (are_kept (fields_of operation) d is.values is.read is.valid))

of_data : (operation : Operation) (o : Option Data) (body : AskBody) → asked_by operation o ≡ Ok body → IsSized body
of_data operation None body e = cc
of_data operation (Some d) body e = of_operation operation d body (of_object operation d body (is_object d) e)

of_name : (o : Option Operation) (text : List ℕ) (body : AskBody) → asked_where o text ≡ Ok body → IsSized body
of_name None text body e = cc
of_name (Some operation) text body e = of_data operation (body_data text) body e

-- what is asked has its sizes
pub asked_sized : (target text : List ℕ) (body : AskBody) → asked target text ≡ Ok body → IsSized body
asked_sized target text body e = of_name (operation_named target) text body e
