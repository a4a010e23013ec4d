-- What is read of lines.
use Rattle.std.proofs.Common.{◌≡◌, ◌≢◌, ◌<◌, ◌^◌, ℕ, Bool, true, false, Option, Some, None, List, [], ◌∷◌, ◌++◌, All, length, take, drop, get_or, codes, decimal, refl, sym, ap, subst, ◌∙◌, arith}
use Rattle.std.proofs.lemmas.List.Elements.{All-nil, All-cons, All-append}
use Rattle.account_rows.specs.declared.entries.Entry.{Entry}
use Rattle.account_steps.specs.declared.facts.RealmFacts.{RealmFacts}
use Rattle.account_core.specs.Fitting.{Fits, IsSound, nothing, one_more}
use Rattle.serde_json.specs.Written.{compact_text}
use Rattle.journal_lines.specs.Lines.{entry_data}
use Rattle.kept_journal.proofs.Printable.{front}
use Rattle.journal_lines.specs.Lines.{entry_line}
use Rattle.journal_lines.specs.LineReading.{entry_of, before_last}
use Rattle.journal_lines.proofs.LineReadingFacts.{line_is}
use Rattle.kept_journal.specs.declared.told.Told.{Told}
use Rattle.kept_journal.specs.declared.told.Told.TheVariants.{Start, Change}
use Rattle.kept_journal.specs.declared.reading.Read.{Read}
use Rattle.kept_journal.specs.Lines.{text_of}
use Rattle.kept_journal.specs.Starts.{latest, Rises, entries_of}
use Rattle.std.proofs.Common.{append_assoc, length-append, ◌+◌, ◌-◌, ◌≤◌}
use Rattle.std.specs.Prelude.{MatchOption, slice_range, Result, Ok, Err, IfOk, IfErr}
use Rattle.kept_journal.specs.declared.faults.KeptFault.{KeptFault}
use Rattle.std.proofs.Math.Seq.{take-append_seam}
use Rattle.hex.specs.Hex.{encode_lower}
use Rattle.kept_journal.proofs.Same.{end_length, seal_length, start_same, not_both}
use Rattle.std.proofs.lemmas.List.{append-nil}
use Rattle.kept_log.specs.Log.{line, lines}
use Rattle.account_core.specs.Account.{Account}
use Rattle.journal_lines.specs.Cuts.{first_line}
use Rattle.kept_journal.specs.Lines.{key_of, seal_of, sealed, records_of, last_seal}
use Rattle.kept_journal.proofs.Chain.{records_are, seal_is}
use Rattle.kept_journal.specs.declared.faults.KeptFault.TheVariants.{At, NoMemory}
use Rattle.kept_journal.specs.Reading.{IsReadBack, AreRead, FitsBehind, start_in, head_of, line_of, text_at, IsSoFar, IsOneMore, IsReadOf, IsOddLine, IsFault, no_line, no_memory}
use Rattle.kms_names.specs.Reading.{some_if}
use Rattle.std.specs.Prelude.{nat_lt}
use Rattle.std.specs.Option.{option_and_then}
use Rattle.std.proofs.lemmas.Bool.{ltb-true, lt-ltb}
use Rattle.journal_lines.specs.Cuts.{number_of}
use Rattle.journal_lines.specs.Frames.{behind}
use Rattle.journal_lines.proofs.FrameFacts.{number_is, number_told, behind_told}
use Rattle.kept_journal.proofs.Chain.{latest_start, latest_change, rises_start, rises_change, entries_start, entries_change}

behind_same : (front a b : List ℕ) → front ++ a ≡ front ++ b → a ≡ b
behind_same [] a b e = e
behind_same (x ∷ front) a b e = behind_same front a b (ap (λ (l : List ℕ). drop 1 l) e)

some_is : {A : Type 0} (b : Bool) (x y : A) → some_if b x ≡ Some y → (b ≡ true) × (x ≡ y)
some_is true x y e = (refl, cc)
some_is false x y e = let none : None ≡ Some y = e in cc

some_true : {A : Type 0} (b : Bool) (x : A) → b ≡ true → some_if b x ≡ Some x
some_true true x e = refl
some_true false x e = cc

pub start_found : (digits : List ℕ) (number : ℕ) → start_in digits ≡ Some number → (number < 2 ^ 32) × (digits ≡ decimal number)
start_found digits number e = found (number_of digits) refl e
  where
    found : (o : Option ℕ) → number_of digits ≡ o → option_and_then (λ n. some_if (nat_lt n 4294967296) n) o ≡ Some number → (number < 2 ^ 32) × (digits ≡ decimal number)
    found None is e = cc
    found (Some m) is e =
        let parts = some_is (nat_lt m 4294967296) m number e in
        (subst (λ (k : ℕ). k < 2 ^ 32) parts.1 (ltb-true m 4294967296 parts.0), (number_is digits m is).1 ∙ ap decimal parts.1)

pub start_known : (digits : List ℕ) (number : ℕ) → number < 2 ^ 32 → digits ≡ decimal number → start_in digits ≡ Some number
start_known digits number low is =
    ap (λ (o : Option ℕ). option_and_then (λ n. some_if (nat_lt n 4294967296) n) o) (ap number_of is ∙ number_told number (omega (arith, low))) ∙ some_true (nat_lt number 4294967296) number (lt-ltb number 4294967296 low)

pub none_behind : (front text : List ℕ) → behind front text ≡ None → (rest : List ℕ) → text ≢ front ++ rest
none_behind front text none rest e = let both : None ≡ Some rest = sym none ∙ ap (λ (t : List ℕ). behind front t) e ∙ behind_told front rest in cc

-- a line of a start tells no change, and a line of a change no start
pub start_alone : (digits : List ℕ) → ((number : ℕ) → number < 2 ^ 32 → digits ≢ decimal number) → (one : Told) → IsReadBack one → codes "\"start\":" ++ digits ≢ text_of one
unfolding text_of
start_alone digits none (Start boot) low e = none boot low (behind_same (codes "\"start\":") digits (decimal boot) e)
start_alone digits none (Change entry) back e = let second : 115 ≡ 101 = ap (λ (l : List ℕ). get_or l 1 0) e in absurd (omega (arith, second))

pub start_told : (digits : List ℕ) (number : ℕ) → digits ≡ decimal number → codes "\"start\":" ++ digits ≡ text_of (Start number)
unfolding text_of
start_told digits number is = ap (λ (d : List ℕ). codes "\"start\":" ++ d) is

pub nothing_alone : (text : List ℕ) → ((rest : List ℕ) → text ≢ codes "\"start\":" ++ rest) → ((rest : List ℕ) → text ≢ codes "\"entry\":" ++ rest) → (one : Told) → IsReadBack one → text ≢ text_of one
unfolding text_of
nothing_alone text no_start no_entry (Start boot) back e = no_start (decimal boot) e
nothing_alone text no_start no_entry (Change entry) back e = no_entry (before_last (entry_line entry)) e

ends : (entry : Entry) → entry_line entry ≡ before_last (entry_line entry) ++ 10 ∷ []
unfolding entry_line
ends entry = ap (λ (t : List ℕ). t ++ 10 ∷ []) (sym (front (compact_text (entry_data entry))))

pub change_alone : (rest : List ℕ) → entry_of (rest ++ 10 ∷ []) ≡ None → (one : Told) → IsReadBack one → codes "\"entry\":" ++ rest ≢ text_of one
unfolding text_of
change_alone rest none (Start boot) low e = let second : 101 ≡ 115 = ap (λ (l : List ℕ). get_or l 1 0) e in absurd (omega (arith, second))
change_alone rest none (Change entry) back e =
    let same : rest ≡ before_last (entry_line entry) = behind_same (codes "\"entry\":") rest (before_last (entry_line entry)) e in
    let read : None ≡ Some entry = sym none ∙ ap (λ (t : List ℕ). entry_of (t ++ 10 ∷ [])) same ∙ ap entry_of (sym (ends entry)) ∙ back in
    cc

pub change_back : (rest : List ℕ) (entry : Entry) → entry_of (rest ++ 10 ∷ []) ≡ Some entry → IsReadBack (Change entry)
change_back rest entry some = ap entry_of (sym (line_is (rest ++ 10 ∷ []) entry some)) ∙ some

pub change_told : (rest : List ℕ) (entry : Entry) → entry_of (rest ++ 10 ∷ []) ≡ Some entry → codes "\"entry\":" ++ rest ≡ text_of (Change entry)
unfolding text_of
change_told rest entry some = ap (λ (t : List ℕ). codes "\"entry\":" ++ t) (sym (front rest) ∙ ap before_last (line_is (rest ++ 10 ∷ []) entry some))

-- one line more
pub start_read : (facts : RealmFacts) (told : List Told) (number : ℕ) → AreRead facts told → latest 0 told < number → number < 2 ^ 32 → AreRead facts (told ++ Start number ∷ [])
start_read facts told number are low small = record {
  rises = rises_start 0 number told are.rises low;
  sound = subst (IsSound facts) (sym (entries_start told number)) are.sound;
  back = All-append IsReadBack told (Start number ∷ []) are.back (All-cons IsReadBack (Start number) [] small (All-nil IsReadBack));
}

pub change_read : (facts : RealmFacts) (told : List Told) (entry : Entry) → AreRead facts told → Fits facts (entries_of told) entry → IsReadBack (Change entry) → AreRead facts (told ++ Change entry ∷ [])
change_read facts told entry are fits back = record {
  rises = rises_change 0 told entry are.rises;
  sound = subst (IsSound facts) (sym (entries_change told entry)) (one_more entry are.sound fits);
  back = All-append IsReadBack told (Change entry ∷ []) are.back (All-cons IsReadBack (Change entry) [] back (All-nil IsReadBack));
}

-- ---- line by line

lines_more : (bodies : List (List ℕ)) (body : List ℕ) → lines (bodies ++ body ∷ []) ≡ lines bodies ++ line body
lines_more [] body = append-nil (line body)
lines_more (b ∷ bodies) body = ap (λ (l : List ℕ). line b ++ l) (lines_more bodies body) ∙ sym (append_assoc (line b) (lines bodies) (line body))

one_more_line : (facts : RealmFacts) (told : List Told) (one : Told) (text behind rest : List ℕ) → text ≡ line_of (key_of facts.root) (last_seal (head_of facts) told) (text_of one) → text ++ behind ≡ rest
    → text_at facts (told ++ one ∷ []) ++ behind ≡ text_at facts told ++ rest
one_more_line facts told one text behind rest is cut =
    let head = head_of facts in
    let last = sealed (text_of one) (seal_of (key_of head.root) (last_seal head told) (text_of one)) in
    ap (λ (l : List (List ℕ)). lines l ++ behind) (records_are head told one) ∙ ap (λ (l : List ℕ). l ++ behind) (lines_more (records_of head told) last)
    ∙ append_assoc (lines (records_of head told)) (line last) behind
    ∙ ap (λ (l : List ℕ). lines (records_of head told) ++ (l ++ behind)) (sym is)
    ∙ ap (λ (l : List ℕ). lines (records_of head told) ++ l) cut

-- how far lines behind the first one were read
pub record IsAt (facts : RealmFacts) (all : List ℕ) (before read : Read) (rest : List ℕ) (place : ℕ) : Type 0 where
  pub told : List Told
  pub so_far : IsSoFar facts told read
  pub text : text_at facts [] ++ all ≡ text_at facts told ++ rest
  pub place_is : place ≡ length told + 2
  pub short : place + length rest ≤ length all + 2
  pub new : read.is_new ≡ before.is_new

pub at_first : (read : Read) (all : List ℕ) → IsSoFar read.account.facts [] read → IsAt read.account.facts all read read all 2
at_first read all none = record { told = []; so_far = none; text = refl; place_is = refl; short = omega arith; new = refl }

pub same_facts : (facts : RealmFacts) (told : List Told) (read : Read) → IsSoFar facts told read → read.account.facts ≡ facts
same_facts facts told read so_far = ap (λ (a : Account). a.facts) so_far.account

pub at_next : (facts : RealmFacts) (all : List ℕ) (before read longer : Read) (rest text behind : List ℕ) (place : ℕ) → (i : IsAt facts all before read rest place) → 0 < length text → text ++ behind ≡ rest
    → IsOneMore facts i.told text read longer → IsAt facts all before longer behind (place + 1)
at_next facts all before read longer rest text behind place i some cut more = record {
  told = i.told ++ more.one ∷ [];
  so_far = more.so_far;
  text = i.text ∙ sym (one_more_line facts i.told more.one text behind rest more.is cut);
  place_is = omega (arith, i.place_is, length-append i.told (more.one ∷ []));
  short = omega (arith, i.short, ap length cut, length-append text behind, some);
  new = more.new ∙ i.new;
}

pub read_whole : (facts : RealmFacts) (all : List ℕ) (before read : Read) (rest : List ℕ) (place : ℕ) → (i : IsAt facts all before read rest place) → length rest ≡ 0 → IsReadOf facts (text_at facts [] ++ all) i.told read
read_whole facts all before read [] place i none = record { so_far = i.so_far; is = i.text ∙ append-nil (text_at facts i.told) }
read_whole facts all before read (x ∷ rest) place i none = absurd (omega (arith, none))

pub odd_line : (facts : RealmFacts) (all : List ℕ) (before read : Read) (rest text : List ℕ) (place : ℕ) → (i : IsAt facts all before read rest place) → 0 < length rest → text ≡ first_line rest → IsOddLine facts i.told text
    → IsFault facts (text_at facts [] ++ all) (At place)
odd_line facts all before read rest text place i some is odd =
    subst (λ (n : ℕ). IsFault facts (text_at facts [] ++ all) (At n)) (sym i.place_is) (no_line rest i.so_far.are i.text some (subst (IsOddLine facts i.told) is odd))

pub with_start : (facts : RealmFacts) (told : List Told) (before : Read) (one : Told) (number : ℕ) (seal : List ℕ) → one ≡ Start number → before.last_start < number → IsSoFar facts told before → IsReadBack one
    → seal ≡ seal_of (key_of facts.root) (last_seal (head_of facts) told) (text_of one) → IsSoFar facts (told ++ one ∷ []) (record { account = before.account; seal = seal; last_start = number; is_new = before.is_new })
with_start facts told before one number seal is low so_far back seal_now =
    subst (λ (o : Told). IsReadBack o → seal ≡ seal_of (key_of facts.root) (last_seal (head_of facts) told) (text_of o) → IsSoFar facts (told ++ o ∷ []) (record { account = before.account; seal = seal; last_start = number; is_new = before.is_new })) (sym is)
    (λ small sealed_by. record {
      are = start_read facts told number so_far.are (omega (arith, low, so_far.last_start)) small;
      account = so_far.account ∙ ap (λ (es : List Entry). record { facts = facts; entries = es }) (sym (entries_start told number));
      seal = sealed_by ∙ sym (seal_is (head_of facts) told (Start number));
      last_start = sym (latest_start 0 number told);
    }) back seal_now

pub with_change : (facts : RealmFacts) (told : List Told) (before : Read) (account : Account) (one : Told) (entry : Entry) (seal : List ℕ) → one ≡ Change entry
    → account ≡ record { facts = before.account.facts; entries = before.account.entries ++ entry ∷ [] } → Fits before.account.facts before.account.entries entry → IsSoFar facts told before → IsReadBack one
    → seal ≡ seal_of (key_of facts.root) (last_seal (head_of facts) told) (text_of one) → IsSoFar facts (told ++ one ∷ []) (record { account = account; seal = seal; last_start = before.last_start; is_new = before.is_new })
with_change facts told before account one entry seal is pushed fits so_far back seal_now =
    subst (λ (o : Told). IsReadBack o → seal ≡ seal_of (key_of facts.root) (last_seal (head_of facts) told) (text_of o) → IsSoFar facts (told ++ o ∷ []) (record { account = account; seal = seal; last_start = before.last_start; is_new = before.is_new })) (sym is)
    (λ small sealed_by. record {
      are = change_read facts told entry so_far.are (subst (λ (a : Account). Fits a.facts a.entries entry) so_far.account fits) small;
      account = pushed ∙ ap (λ (a : Account). record { facts = a.facts; entries = a.entries ++ entry ∷ [] }) so_far.account ∙ ap (λ (es : List Entry). record { facts = facts; entries = es }) (sym (entries_change told entry));
      seal = sealed_by ∙ sym (seal_is (head_of facts) told (Change entry));
      last_start = so_far.last_start ∙ sym (latest_change 0 told entry);
    }) back seal_now

pub line_long : (key last text : List ℕ) → length (line_of key last text) ≡ length text + 77
unfolding sealed
line_long key last text =
    let seal = seal_of key last text in
    let end = codes ",\"seal\":\"" ++ (encode_lower seal ++ codes "\"}") in
    omega (arith, length-append (text ++ end) (10 ∷ []), length-append text end, end_length seal (seal_length key last text))

pub middle : (key last text all : List ℕ) → all ≡ line_of key last text → slice_range all 1 (length all - 76) ≡ text
unfolding sealed
middle key last text all e =
    let seal = seal_of key last text in
    let end = codes ",\"seal\":\"" ++ (encode_lower seal ++ codes "\"}") in
    let size : length all - 76 - 1 ≡ length text = omega (arith, ap length e, line_long key last text) in
    ap (λ (n : ℕ). take n (drop 1 all)) size ∙ ap (λ (l : List ℕ). take (length text) (drop 1 l)) e ∙ ap (λ (l : List ℕ). take (length text) l) (append_assoc text end (10 ∷ [])) ∙ take-append_seam text (end ++ 10 ∷ [])

pub one_more_of : (facts : RealmFacts) (told : List Told) (read : Read) (key text : List ℕ) (found : Option Read) → IsSoFar facts told read → key ≡ key_of facts.root
    → ((so_far : List Told) → IsSoFar read.account.facts so_far read → key ≡ key_of read.account.facts.root → MatchOption found (IsOddLine read.account.facts so_far text) (IsOneMore read.account.facts so_far text read))
    → MatchOption found (IsOddLine facts told text) (IsOneMore facts told text read)
one_more_of facts told read key text found so_far is with =
    let same = same_facts facts told read so_far in
    subst (λ (f : RealmFacts). MatchOption found (IsOddLine f told text) (IsOneMore f told text read)) same
    (with told (subst (λ (f : RealmFacts). IsSoFar f told read) (sym same) so_far) (is ∙ ap (λ (f : RealmFacts). key_of f.root) (sym same)))

pub when_some : {X : Type 0} (A : Type 0) (B : X → Type 0) (found : Option X) (x : X) → found ≡ Some x → MatchOption found A B → B x
when_some {X} A B found x is m = subst (λ (o : Option X). MatchOption o A B) is m

pub when_none : {X : Type 0} (A : Type 0) (B : X → Type 0) (found : Option X) → found ≡ None → MatchOption found A B → A
when_none {X} A B found is m = subst (λ (o : Option X). MatchOption o A B) is m

change_line : (f g : Entry) → text_of (Change f) ≡ text_of (Change g) → entry_line f ≡ entry_line g
unfolding text_of
change_line f g e = ends f ∙ ap (λ (t : List ℕ). t ++ 10 ∷ []) (behind_same (codes "\"entry\":") (before_last (entry_line f)) (before_last (entry_line g)) e) ∙ sym (ends g)

-- what is read back is told by its text
told_same : (a b : Told) → IsReadBack a → IsReadBack b → text_of a ≡ text_of b → a ≡ b
told_same (Start m) (Start n) low small e = ap Start (start_same m n low small e)
told_same (Start m) (Change f) low back e = absurd (not_both m f e)
told_same (Change f) (Start n) back low e = absurd (not_both n f (sym e))
told_same (Change f) (Change g) back other e =
    let lines_same : entry_line f ≡ entry_line g = change_line f g e in
    let read : Some f ≡ Some g = sym back ∙ ap entry_of lines_same ∙ other in
    let same : f ≡ g = cc in
    ap Change same

-- lines that are the same have the same text
pub text_is : (key last a b all : List ℕ) → all ≡ line_of key last a → all ≡ line_of key last b → a ≡ b
text_is key last a b all p q = sym (middle key last a all p) ∙ middle key last b all q

pub line_with : (facts : RealmFacts) (told : List Told) (before : Read) (all : List ℕ) (one : Told) → all ≡ line_of (key_of facts.root) (last_seal (head_of facts) told) (text_of one) → IsReadBack one → (found : Option Read)
    → MatchOption found (¬ (FitsBehind facts told one)) (λ longer. IsSoFar facts (told ++ one ∷ []) longer × (longer.is_new ≡ before.is_new))
    → MatchOption found (IsOddLine facts told all) (IsOneMore facts told all before)
line_with facts told before all one is back None unfit = λ other other_back fits e.
    unfit (subst (FitsBehind facts told) (told_same other one other_back back (text_is (key_of facts.root) (last_seal (head_of facts) told) (text_of other) (text_of one) all e is)) fits)
line_with facts told before all one is back (Some longer) m = record { one = one; is = is; so_far = m.0; new = m.1 }

pub each_ok : (A B : Option Read → Type 0) → ((o : Option Read) → A o → B o) → (r : Result (Option Read) KeptFault) → IfOk r A → IfOk r B
each_ok A B f (Ok o) m = f o m
each_ok A B f (Err e) m = m

pub err_memory : (facts : RealmFacts) (text : List ℕ) (r : Result Read KeptFault) → IfErr r (λ fault. fault ≡ NoMemory) → IfErr r (IsFault facts text)
err_memory facts text (Ok read) m = m
err_memory facts text (Err fault) m = subst (IsFault facts text) (sym m) no_memory
