use Rattle.std.proofs.Common.{codes}
use Rattle.serde_json.specs.View.{view}
use Rattle.kms_config.specs.Config.{config_in, too_long, no_json}
use Rattle.kms_config.proofs.ConfigFacts.{refused_at, value_refused, some_read, none_read}
use Rattle.kms_config.proofs.ConfigJudged.{whole, no_configuration, at_whole, of_value, at_value, answered_configuration, answered_fault, answered_taken, answered_refused}
use Rattle.kms_config.proofs.KindFacts.{callers_kind, documents_of_ceiling}
use Rattle.kms_config.proofs.config.read_config.Goals as goal

pub returns-then-bytes-gt-LONGEST-clause-fault : goal.returns-then-bytes-gt-LONGEST-clause-fault
returns-then-bytes-gt-LONGEST-clause-fault c = refused_at c.args.bytes.now (codes "/") c.refused_behind.result (too_long c.if-bytes-gt-LONGEST.true) c.refused_behind.ensures

pub returns-in-Some-clause-fault : goal.returns-in-Some-clause-fault
returns-in-Some-clause-fault c =
    value_refused c.args.bytes.now (view c.in-Some.value) c.config_in.result c.if-bytes-gt-LONGEST.false
    (some_read c.args.bytes.now c.in_ok-value.field-0 c.in-Some.value c.in-Some.is c.in_ok-value.ensures) c.config_in.ensures

pub returns-in-Some-clause-identity_policies : goal.returns-in-Some-clause-identity_policies
returns-in-Some-clause-identity_policies c = callers_kind (view c.in-Some.value) c.config_in.result c.config_in.ensures

pub returns-in-None-clause-fault : goal.returns-in-None-clause-fault
returns-in-None-clause-fault c =
    refused_at c.args.bytes.now (codes "/") c.refused_behind-in-None.result
    (no_json c.if-bytes-gt-LONGEST.false (none_read c.args.bytes.now c.in_ok-value.field-0 c.in-None.is c.in_ok-value.ensures)) c.refused_behind-in-None.ensures

pub returns-in-Some-clause-ceiling_policies : goal.returns-in-Some-clause-ceiling_policies
returns-in-Some-clause-ceiling_policies c = documents_of_ceiling (view c.in-Some.value) c.config_in.result c.config_in.ensures

pub returns-then-bytes-gt-LONGEST-clause-configuration : goal.returns-then-bytes-gt-LONGEST-clause-configuration
returns-then-bytes-gt-LONGEST-clause-configuration c =
    let why = too_long c.if-bytes-gt-LONGEST.true in
    answered_configuration c.args.bytes.now whole (no_configuration c.args.bytes.now why) (at_whole c.args.bytes.now why) c.refused_behind.result c.refused_behind.ensures

pub returns-then-bytes-gt-LONGEST-clause-first_fault : goal.returns-then-bytes-gt-LONGEST-clause-first_fault
returns-then-bytes-gt-LONGEST-clause-first_fault c =
    let why = too_long c.if-bytes-gt-LONGEST.true in
    answered_fault c.args.bytes.now whole (no_configuration c.args.bytes.now why) (at_whole c.args.bytes.now why) c.refused_behind.result c.refused_behind.ensures

pub returns-then-bytes-gt-LONGEST-clause-taken : goal.returns-then-bytes-gt-LONGEST-clause-taken
returns-then-bytes-gt-LONGEST-clause-taken c =
    let why = too_long c.if-bytes-gt-LONGEST.true in
    answered_taken c.args.bytes.now whole (no_configuration c.args.bytes.now why) (at_whole c.args.bytes.now why) c.refused_behind.result c.refused_behind.ensures

pub returns-then-bytes-gt-LONGEST-clause-refused : goal.returns-then-bytes-gt-LONGEST-clause-refused
returns-then-bytes-gt-LONGEST-clause-refused c =
    let why = too_long c.if-bytes-gt-LONGEST.true in
    answered_refused c.args.bytes.now whole (no_configuration c.args.bytes.now why) (at_whole c.args.bytes.now why) c.refused_behind.result c.refused_behind.ensures

pub returns-in-Some-clause-configuration : goal.returns-in-Some-clause-configuration
returns-in-Some-clause-configuration c =
    let reads = some_read c.args.bytes.now c.in_ok-value.field-0 c.in-Some.value c.in-Some.is c.in_ok-value.ensures in
    answered_configuration c.args.bytes.now (config_in (view c.in-Some.value)) (of_value c.args.bytes.now (view c.in-Some.value) c.if-bytes-gt-LONGEST.false reads) (at_value c.args.bytes.now (view c.in-Some.value) c.if-bytes-gt-LONGEST.false reads) c.config_in.result c.config_in.ensures

pub returns-in-Some-clause-first_fault : goal.returns-in-Some-clause-first_fault
returns-in-Some-clause-first_fault c =
    let reads = some_read c.args.bytes.now c.in_ok-value.field-0 c.in-Some.value c.in-Some.is c.in_ok-value.ensures in
    answered_fault c.args.bytes.now (config_in (view c.in-Some.value)) (of_value c.args.bytes.now (view c.in-Some.value) c.if-bytes-gt-LONGEST.false reads) (at_value c.args.bytes.now (view c.in-Some.value) c.if-bytes-gt-LONGEST.false reads) c.config_in.result c.config_in.ensures

pub returns-in-Some-clause-taken : goal.returns-in-Some-clause-taken
returns-in-Some-clause-taken c =
    let reads = some_read c.args.bytes.now c.in_ok-value.field-0 c.in-Some.value c.in-Some.is c.in_ok-value.ensures in
    answered_taken c.args.bytes.now (config_in (view c.in-Some.value)) (of_value c.args.bytes.now (view c.in-Some.value) c.if-bytes-gt-LONGEST.false reads) (at_value c.args.bytes.now (view c.in-Some.value) c.if-bytes-gt-LONGEST.false reads) c.config_in.result c.config_in.ensures

pub returns-in-Some-clause-refused : goal.returns-in-Some-clause-refused
returns-in-Some-clause-refused c =
    let reads = some_read c.args.bytes.now c.in_ok-value.field-0 c.in-Some.value c.in-Some.is c.in_ok-value.ensures in
    answered_refused c.args.bytes.now (config_in (view c.in-Some.value)) (of_value c.args.bytes.now (view c.in-Some.value) c.if-bytes-gt-LONGEST.false reads) (at_value c.args.bytes.now (view c.in-Some.value) c.if-bytes-gt-LONGEST.false reads) c.config_in.result c.config_in.ensures

pub returns-in-None-clause-configuration : goal.returns-in-None-clause-configuration
returns-in-None-clause-configuration c =
    let why = no_json c.if-bytes-gt-LONGEST.false (none_read c.args.bytes.now c.in_ok-value.field-0 c.in-None.is c.in_ok-value.ensures) in
    answered_configuration c.args.bytes.now whole (no_configuration c.args.bytes.now why) (at_whole c.args.bytes.now why) c.refused_behind-in-None.result c.refused_behind-in-None.ensures

pub returns-in-None-clause-first_fault : goal.returns-in-None-clause-first_fault
returns-in-None-clause-first_fault c =
    let why = no_json c.if-bytes-gt-LONGEST.false (none_read c.args.bytes.now c.in_ok-value.field-0 c.in-None.is c.in_ok-value.ensures) in
    answered_fault c.args.bytes.now whole (no_configuration c.args.bytes.now why) (at_whole c.args.bytes.now why) c.refused_behind-in-None.result c.refused_behind-in-None.ensures

pub returns-in-None-clause-taken : goal.returns-in-None-clause-taken
returns-in-None-clause-taken c =
    let why = no_json c.if-bytes-gt-LONGEST.false (none_read c.args.bytes.now c.in_ok-value.field-0 c.in-None.is c.in_ok-value.ensures) in
    answered_taken c.args.bytes.now whole (no_configuration c.args.bytes.now why) (at_whole c.args.bytes.now why) c.refused_behind-in-None.result c.refused_behind-in-None.ensures

pub returns-in-None-clause-refused : goal.returns-in-None-clause-refused
returns-in-None-clause-refused c =
    let why = no_json c.if-bytes-gt-LONGEST.false (none_read c.args.bytes.now c.in_ok-value.field-0 c.in-None.is c.in_ok-value.ensures) in
    answered_refused c.args.bytes.now whole (no_configuration c.args.bytes.now why) (at_whole c.args.bytes.now why) c.refused_behind-in-None.result c.refused_behind-in-None.ensures
