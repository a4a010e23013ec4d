-- The words of the command line.
use Rattle.std.specs.Prelude.{◌-◌, ◌&&◌, ◌||◌, not, Bool, true, false, ℕ, nat_eq, List, [], ◌∷◌, length, take, slice_index, codes, Option, None, Some, option_map, option_and_then, if◌then◌else◌}
use Rattle.std.specs.List.{list_any}
use Rattle.std.specs.Option.{is_some, option_map_or}
use Rattle.std.specs.Str.{bytes_eq}
use Rattle.clap.specs.Words.{App, Rule, Row, Text, Kinds, new_app, new_rule, with_rule, with_subcommand, first_of, fault_of, subcommand_of}
use Rattle.clap.specs.declared.builder.action.ArgAction.TheVariants.{SetTrue}
use Rattle.kms_names.specs.Reading.{after_front}
use Rattle.kms_words.specs.declared.asked.RunWords.{RunWords}
use Rattle.kms_words.specs.declared.asked.ServeWords.{ServeWords}
use Rattle.kms_words.specs.declared.asked.SessionAsked.{SessionAsked}
use Rattle.kms_words.specs.declared.asked.SessionWords.{SessionWords}
use Rattle.kms_words.specs.declared.asked.SessionWords.TheVariants as session
use Rattle.kms_words.specs.declared.asked.Asked.{Asked}
use Rattle.kms_words.specs.declared.asked.Asked.TheVariants as asked
use Rattle.kms_words.specs.Numbers.{number_within, number_or}

-- ---- the command line, as `clap` reads it

-- `--NAME VALUE` or `--NAME=VALUE`
abbrev pub value_option : Text → Rule
value_option name = record (new_rule name) { long = Some name }

-- `--NAME`, without a value
abbrev pub flag_option : Text → Rule
flag_option name = record (new_rule name) { long = Some name; action = Some SetTrue }

abbrev pub with_value : App → Text → App
with_value app name = with_rule app (value_option name)

abbrev pub with_flag : App → Text → App
with_flag app name = with_rule app (flag_option name)

-- with each of some options
abbrev pub with_values : App → List Text → App
with_values app [] = app
with_values app (name ∷ names) = with_values (with_value app name) names

-- a command that is about one session, with the options of its settings and of its journal
abbrev pub session_line : Text → App
session_line name = with_values (new_app name) (codes "account" ∷ codes "region" ∷ codes "root" ∷ codes "boot" ∷ codes "as" ∷ codes "config" ∷ codes "load" ∷ [])

abbrev pub run_line : App
run_line = session_line (codes "run")

abbrev pub explain_line : App
explain_line = session_line (codes "explain")

abbrev pub export_line : App
export_line = session_line (codes "export")

-- `check` with its option
abbrev pub check_line : App
check_line = with_values (new_app (codes "check")) (codes "config" ∷ [])

-- `serve` with its options
abbrev pub serve_line : App
serve_line = with_flag (with_values (new_app (codes "serve")) (codes "config" ∷ codes "listen" ∷ codes "workers" ∷ codes "connections" ∷ codes "load" ∷ [])) (codes "export")

-- `load` with its options
abbrev pub load_line : App
load_line = with_values (new_app (codes "load")) (codes "seed" ∷ codes "requests" ∷ [])

-- one of the commands, and nothing before it
abbrev pub bare_line : App
bare_line = let app = new_app (codes "kms_local") in record app { top = record app.top { no_binary_name = true; subcommand_required = true } }

abbrev pub whole_line : App
whole_line =
    with_subcommand (with_subcommand (with_subcommand (with_subcommand (with_subcommand (with_subcommand bare_line run_line.top) check_line.top) serve_line.top) load_line.top) explain_line.top) export_line.top

-- ---- words that no command has

-- the last byte is `=`, and no other one is
abbrev pub ends_in_equals : List ℕ → Bool
ends_in_equals text = nat_eq (slice_index text (length text - 1)) 61 && not (list_any (λ byte. nat_eq byte 61) (take (length text - 1) text))

-- an option of no value, as `--name=`
abbrev pub is_valueless : List ℕ → Bool
is_valueless word = is_some (after_front (codes "--") word) && ends_in_equals word

-- the empty word, `-`, `--`, or an option of no value
abbrev pub is_stray : List ℕ → Bool
is_stray word = bytes_eq word [] || (bytes_eq word (codes "-") || (bytes_eq word (codes "--") || is_valueless word))

-- ---- what the words ask

-- the values of a session's settings
pub record RunValues : Type 0 where
  pub account : List ℕ
  pub region : List ℕ
  pub root : List ℕ
  pub boot : Option (List ℕ)
  pub caller : List ℕ

-- the values of `serve`: the file, the address, how many workers there are, how many connections each takes, the file of the journal
-- that it begins with, if it is given, and whether `--export` is given
pub record ServeValues : Type 0 where
  pub file : List ℕ
  pub address : List ℕ
  pub workers : ℕ
  pub connections : ℕ
  pub load : Option (List ℕ)
  pub exports : Bool

-- where the settings of a session come from: values, or a file and perhaps a caller
pub data Source : Type 0 where
  of_values : RunValues → Source
  of_file : List ℕ → Option (List ℕ) → Source

-- `run`, `explain` or `export` with the settings of a session and perhaps the file of the journal that it begins with, `check` with a
-- file, `serve` with its values, or `load` with a seed and a number of requests
pub data Command : Type 0 where
  run : Source → Option (List ℕ) → Command
  explain : Source → Option (List ℕ) → Command
  export : Source → Option (List ℕ) → Command
  check : List ℕ → Command
  serve : ServeValues → Command
  load : ℕ → ℕ → Command

-- account, region, root secret and caller are all given
abbrev pub values_of : Option Text → Option Text → Option Text → Option Text → Option Text → Option Source
values_of None region root boot caller = None
values_of (Some account) None root boot caller = None
values_of (Some account) (Some region) None boot caller = None
values_of (Some account) (Some region) (Some root) boot None = None
values_of (Some account) (Some region) (Some root) boot (Some caller) =
    Some (of_values (record { account = account; region = region; root = root; boot = boot; caller = caller }))

-- one of the two forms of a session's settings: with a file none of the values but the caller is given
abbrev pub form_of : Option Text → Option Text → Option Text → Option Text → Option Text → Option Text → Option Source
form_of None account region root boot caller = values_of account region root boot caller
form_of (Some file) account region root boot caller =
    if is_some account || (is_some region || (is_some root || is_some boot)) then None else Some (of_file file caller)

abbrev pub source_of : List Row → Option Source
source_of rows =
    form_of (first_of (codes "config") rows) (first_of (codes "account") rows) (first_of (codes "region") rows) (first_of (codes "root") rows) (first_of (codes "boot") rows) (first_of (codes "as") rows)

-- an option that takes no value is given: `clap` holds the value `true` for it, and else `false`
abbrev pub is_given : Text → List Row → Bool
is_given name rows = option_map_or (λ value. bytes_eq value (codes "true")) (first_of name rows) false

-- a command that is about one session
abbrev pub of_session : (Source → Option (List ℕ) → Command) → List Row → Option Command
of_session command rows = option_map (λ source. command source (first_of (codes "load") rows)) (source_of rows)

abbrev pub run_of : List Row → Option Command
run_of rows = of_session run rows

abbrev pub explain_of : List Row → Option Command
explain_of rows = of_session explain rows

abbrev pub export_of : List Row → Option Command
export_of rows = of_session export rows

abbrev pub check_of : List Row → Option Command
check_of rows = option_map check (first_of (codes "config") rows)

-- the file and the address are given, and the numbers are within their bounds
abbrev pub served_by : Option Text → Option Text → Option ℕ → Option ℕ → Option Text → Bool → Option Command
served_by None address workers connections journal exports = None
served_by (Some file) None workers connections journal exports = None
served_by (Some file) (Some address) None connections journal exports = None
served_by (Some file) (Some address) (Some workers) None journal exports = None
served_by (Some file) (Some address) (Some workers) (Some connections) journal exports =
    Some (serve (record { file = file; address = address; workers = workers; connections = connections; load = journal; exports = exports }))

-- 1 to 64 workers (4), each with 1 to 1,000,000,000 connections (2^57: as many as come)
abbrev pub serve_of : List Row → Option Command
serve_of rows =
    served_by (first_of (codes "config") rows) (first_of (codes "listen") rows) (number_or 4 1 64 (first_of (codes "workers") rows)) (number_or 144115188075855872 1 1000000000 (first_of (codes "connections") rows)) (first_of (codes "load") rows) (is_given (codes "export") rows)

-- both numbers are given, and within their bounds
abbrev pub loaded_by : Option ℕ → Option ℕ → Option Command
loaded_by None requests = None
loaded_by (Some seed) None = None
loaded_by (Some seed) (Some requests) = Some (load seed requests)

-- a seed of 64 bits, and 1 to 100,000 requests
abbrev pub load_of : List Row → Option Command
load_of rows = loaded_by (option_and_then (number_within 0 18446744073709551615) (first_of (codes "seed") rows)) (option_and_then (number_within 1 100000) (first_of (codes "requests") rows))

-- by the name of the command and the values of its options
abbrev pub named_command : Option (Text × List Row) → Option Command
named_command None = None
named_command (Some (name, rows)) =
    if bytes_eq name (codes "run") then run_of rows
    else (if bytes_eq name (codes "explain") then explain_of rows
    else (if bytes_eq name (codes "export") then export_of rows
    else (if bytes_eq name (codes "check") then check_of rows
    else (if bytes_eq name (codes "serve") then serve_of rows
    else load_of rows))))

abbrev pub unless_refused : Kinds → Option (Text × List Row) → Option Command
unless_refused [] named = named_command named
unless_refused (kind ∷ kinds) named = None

-- the command that the words are, if none of them is one that no command has and `clap` takes them
unfoldable pub command_of : List (List ℕ) → Option Command
command_of words = if list_any is_stray words then None else unless_refused (fault_of whole_line words) (subcommand_of whole_line words)

-- ---- what the words name

abbrev pub values_in : RunWords → RunValues
values_in words = record {
  account = words.account.now;
  region = words.region.now;
  root = words.root.now;
  boot = option_map (λ boot. boot.now) words.boot;
  caller = words.caller.now;
}

abbrev pub serve_values_in : ServeWords → ServeValues
serve_values_in words = record {
  file = words.file.now;
  address = words.address.now;
  workers = words.workers;
  connections = words.connections;
  load = option_map (λ file. file.now) words.load;
  exports = words.exports;
}

abbrev pub source_in : SessionWords → Source
source_in (session.Values words) = of_values (values_in words)
source_in (session.File file caller) = of_file file.now (option_map (λ caller. caller.now) caller)

-- the file of the journal that the session begins with
abbrev pub journal_in : SessionAsked → Option (List ℕ)
journal_in session = option_map (λ file. file.now) session.load

abbrev pub shown : Asked → Command
shown (asked.Run session) = run (source_in session.words) (journal_in session)
shown (asked.Explain session) = explain (source_in session.words) (journal_in session)
shown (asked.Export session) = export (source_in session.words) (journal_in session)
shown (asked.Check file) = check file.now
shown (asked.Serve words) = serve (serve_values_in words)
shown (asked.Load words) = load words.seed words.requests
