-- The requests of a script that is taken are its lines that begin with `at`: by the word that a line begins with.
use Rattle.std.proofs.Common.{◌≡◌, ℕ, suc, ◌+◌, Bool, true, false, not, ◌&&◌, if◌then◌else◌, cond, List, [], ◌∷◌, ◌++◌, length, refl, sym, ap, subst, ◌∙◌, codes, Result, Ok, Err, nat_eq, nat_lt, IfOk, arith, append-nil}
use Rattle.std.proofs.lemmas.Bool.Decides.{nat_tests}
use Rattle.std.proofs.lemmas.List.Splits.{join_with_byte-slice_split}
use Rattle.std.specs.Cmp.Lexicographic.{same_text}
use Rattle.std.specs.List.{filter, slice_split, starts_with, join_with_byte}
use Rattle.std.specs.Str.{is_utf8}
use Rattle.std.specs.Str.Lossy.{utf8_valid_len}
use Rattle.x5_model.specs.Requests as ask
use Rattle.x5_model.specs.Values.{Text}
use Rattle.x5_model.specs.Words.{is_empty, same_octets}
use Rattle.x5_model_run.specs.Network as network
use Rattle.x5_model_run.specs.Run as run
use Rattle.x5_model_script.specs.Lines.{Asked, Runs, Delivers, agent, reading, operation, controls, requested, request, one_agent, outage, two_agents, pair, refresh, lose, deliver, outage_by, command_by, command, most_octets, is_silent, line_of}
use Rattle.x5_model_script.specs.Script.{most_lines, line_at, loses_reply, within_losses, line_behind, lost_behind, with_others, lines_of, lines_from}
use Rattle.x5_model_script.specs.Texts as texts
use Rattle.x5_model_script.specs.Words.{Fault, Long, BadWord, BadHex, ◌>>=◌, Word, Left, is_space, placed, words_of, sound, passed, next, ended}
use Rattle.x5_model_tree.specs.Described.{most_lost_replies}
use Rattle.x5_model_counted.specs.Laws.{asks, RequestsAreLines}
use Rattle.x5_model_counted.proofs.Lines.{beginning}

abbrev begins_at : Text → Bool
begins_at line = starts_with nat_eq line (codes "at")

-- what is asked for is a request just where the answer is so
abbrev Asking : Bool → Asked → Type 0
Asking answer a = asks a ≡ answer

-- ---- what holds of what is read holds through a step

whatever : {A B : Type 0} (P : B → Type 0) (r : Result A Fault) (f : A → Result B Fault) → ((x : A) → IfOk (f x) P) → IfOk (r >>= f) P
whatever P (Err e) f h = tt
whatever P (Ok x) f h = h x

given : {A B : Type 0} (P : B → Type 0) (Q : A → Type 0) (r : Result A Fault) (f : A → Result B Fault) → IfOk r Q → ((x : A) → Q x → IfOk (f x) P)
    → IfOk (r >>= f) P
given P Q (Err e) f q h = tt
given P Q (Ok x) f q h = h x q

if_both : {A : Type 0} (P : A → Type 0) (b : Bool) (r s : Result A Fault) → IfOk r P → IfOk s P → IfOk (if b then r else s) P
if_both P true r s p q = p
if_both P false r s p q = q

-- ---- kinds of lines

abbrev asks_to : ℕ → ask.Controls × Left → ask.Body × Left → Unit {0} → Result Asked Fault
asks_to to asked body nothing = Ok (Runs (run.Asks to (record { controls = asked.0; body = body.0 })))

request_asks : (names : List Text) (left : Left) → IfOk (request names left) (Asking true)
request_asks names left =
    whatever (Asking true) (agent names left) (λ to. requested to.0 (controls to.1))
    (λ to. whatever (Asking true) (operation (controls to.1).1) (λ body. ended body.1 >>= asks_to to.0 (controls to.1) body)
    (λ body. whatever (Asking true) (ended body.1) (asks_to to.0 (controls to.1) body) (λ nothing. refl)))

abbrev delivers : Bool → ℕ → List ℕ → Unit {0} → Result Asked Fault
delivers dsp to octets nothing = Ok (Delivers dsp to octets)

abbrev octets_behind : Bool → ℕ → Left → Result Asked Fault
octets_behind dsp to left = reading texts.octets_in BadHex left >>= (λ octets. ended octets.1 >>= delivers dsp to octets.0)

deliver_asks : (names : List Text) (left : Left) → IfOk (deliver names left) (Asking false)
deliver_asks names left =
    whatever (Asking false) (reading texts.protocol_in BadWord left) (λ dsp. agent names dsp.1 >>= (λ to. octets_behind dsp.0 to.0 to.1))
    (λ dsp. whatever (Asking false) (agent names dsp.1) (λ to. octets_behind dsp.0 to.0 to.1)
    (λ to. whatever (Asking false) (reading texts.octets_in BadHex to.1) (λ octets. ended octets.1 >>= delivers dsp.0 to.0 octets.0)
    (λ octets. whatever (Asking false) (ended octets.1) (delivers dsp.0 to.0 octets.0) (λ nothing. refl))))

abbrev changed : (ℕ → network.Outage) → ℕ → Result Asked Fault
changed change a = Ok (Runs (run.Changes (change a)))

outage_asks : (names : List Text) (change : ℕ → network.Outage) (left : Left) → IfOk (outage change names left) (Asking false)
outage_asks names change left = whatever (Asking false) (one_agent names left) (changed change) (λ a. refl)

abbrev changed_both : (ℕ → ℕ → network.Outage) → ℕ × ℕ → Result Asked Fault
changed_both change both = Ok (Runs (run.Changes (change both.0 both.1)))

pair_asks : (names : List Text) (change : ℕ → ℕ → network.Outage) (left : Left) → IfOk (pair change names left) (Asking false)
pair_asks names change left = whatever (Asking false) (two_agents names left) (changed_both change) (λ both. refl)

abbrev loses : Bool → ℕ → Unit {0} → Result Asked Fault
loses reply k nothing = Ok (Runs (run.Drops reply k))

lose_asks : (left : Left) → IfOk (lose left) (Asking false)
lose_asks left =
    whatever (Asking false) (reading texts.loss_kind_in BadWord left) (λ reply. reading texts.loss_in BadWord reply.1 >>= (λ k. ended k.1 >>= loses reply.0 k.0))
    (λ reply. whatever (Asking false) (reading texts.loss_in BadWord reply.1) (λ k. ended k.1 >>= loses reply.0 k.0)
    (λ k. whatever (Asking false) (ended k.1) (loses reply.0 k.0) (λ nothing. refl)))

abbrev refreshes : ℕ → Bool → Bool → Unit {0} → Result Asked Fault
refreshes id pushes total nothing = Ok (Runs (run.Updates id pushes total))

refresh_asks : (pushes : Bool) (left : Left) → IfOk (refresh pushes left) (Asking false)
refresh_asks pushes left =
    whatever (Asking false) (reading texts.agreement_in BadWord left) (λ id. reading texts.strategy_in BadWord id.1 >>= (λ total. ended total.1 >>= refreshes id.0 pushes total.0))
    (λ id. whatever (Asking false) (reading texts.strategy_in BadWord id.1) (λ total. ended total.1 >>= refreshes id.0 pushes total.0)
    (λ total. whatever (Asking false) (ended total.1) (refreshes id.0 pushes total.0) (λ nothing. refl)))

-- ---- the word that a line begins with

-- the line is the word and something behind it
abbrev Begins : Text → Text → Type 0
Begins line word = (rest : Text) × (line ≡ word ++ rest)

sound_is : (w : Word) → IfOk (sound w) (λ word. word ≡ w)
sound_is w =
    if_both (λ word. word ≡ w) (is_empty w.text) (Err (BadWord w.column)) _ tt
    (if_both (λ word. word ≡ w) (is_utf8 w.text) (Ok w) (Err (BadWord (w.column + utf8_valid_len w.text))) refl tt)

abbrev left_of : ℕ → List Text → Left
left_of end parts = record { words = placed 1 parts; end = end }

first_part : (line t : Text) (ts : List Text) → line ≡ join_with_byte 32 (t ∷ ts) → Begins line t
first_part line t [] e = ([], e ∙ sym (append-nil t))
first_part line t (u ∷ us) e = (32 ∷ join_with_byte 32 (u ∷ us), e)

next_begins : (line : Text) (end : ℕ) (parts : List Text) → line ≡ join_with_byte 32 parts → IfOk (next (left_of end parts)) (λ w. Begins line w.0.text)
next_begins line end [] e = tt
next_begins line end (t ∷ ts) e =
    let w : Word = record { column = 1; text = t } in
    given (λ (r : Word × Left). Begins line r.0.text) (λ word. word ≡ w) (sound w) (λ word. Ok (word, passed (left_of end (t ∷ ts)))) (sound_is w)
    (λ word same. subst (λ (x : Word). Begins line x.text) (sym same) (first_part line t ts e))

-- a line that begins with this word asks as the word tells, and others as what stands for them
module _ (line : Text) (w : Word) (begins : Begins line w.text) where
  by_word : (word : Text) (answer : Bool) → ((rest : Text) → begins_at (word ++ rest) ≡ answer) → (r s : Result Asked Fault) → IfOk r (Asking answer)
      → IfOk s (Asking (begins_at line)) → IfOk (if same_octets w.text word then r else s) (Asking (begins_at line))
  by_word word answer told r s p q = by (same_octets w.text word) refl
    where
      by : (b : Bool) → same_octets w.text word ≡ b → IfOk (cond b r s) (Asking (begins_at line))
      by true e =
          let is : line ≡ word ++ begins.0 = begins.1 ∙ ap (λ (x : Text). x ++ begins.0) (same_text w.text word (sym e)) in
          subst (λ (b : Bool). IfOk r (Asking b)) (sym (ap begins_at is ∙ told begins.0)) p
      by false e = q

  outage_by_asks : (names : List Text) (left : Left) → IfOk (outage_by names w left) (Asking (begins_at line))
  outage_by_asks names left =
      by_word (codes "down") false (λ rest. refl) _ _ (outage_asks names network.Down left)
      (by_word (codes "up") false (λ rest. refl) _ _ (outage_asks names network.Up left)
      (by_word (codes "refuse") false (λ rest. refl) _ _ (outage_asks names network.Refuse left)
      (by_word (codes "willing") false (λ rest. refl) _ _ (outage_asks names network.Willing left)
      (by_word (codes "cut") false (λ rest. refl) _ _ (pair_asks names network.Cut left)
      (by_word (codes "join") false (λ rest. refl) _ _ (pair_asks names network.Join left) tt)))))

  command_by_asks : (names : List Text) (left : Left) → IfOk (command_by names w left) (Asking (begins_at line))
  command_by_asks names left =
      by_word (codes "at") true (λ rest. refl) _ _ (request_asks names left)
      (by_word (codes "pull") false (λ rest. refl) _ _ (refresh_asks false left)
      (by_word (codes "push") false (λ rest. refl) _ _ (refresh_asks true left)
      (by_word (codes "lose") false (λ rest. refl) _ _ (lose_asks left)
      (by_word (codes "deliver") false (λ rest. refl) _ _ (deliver_asks names left) (outage_by_asks names left)))))

command_asks : (names : List Text) (line : Text) → IfOk (command names (words_of line)) (Asking (begins_at line))
command_asks names line =
    given (Asking (begins_at line)) (λ w. Begins line w.0.text) (next (words_of line)) (λ w. command_by names w.0 w.1)
    (next_begins line (length line + 1) (slice_split is_space line) (sym (join_with_byte-slice_split 32 line)))
    (λ w begins. command_by_asks line w.0 begins names w.1)

-- ---- lines

silent_begins : (line : Text) → is_silent line ≡ true → false ≡ begins_at line
silent_begins [] e = refl
silent_begins (b ∷ bs) e = grind (arith, nat_tests)

line_asks : (names : List Text) (line : Text) → IfOk (line_of names line) (Asking (begins_at line))
line_asks names line =
    if_both (Asking (begins_at line)) (nat_lt most_octets (length line)) (Err Long) _ tt (by (is_silent line) refl)
  where
    by : (b : Bool) → is_silent line ≡ b → IfOk (cond b (Ok (Runs run.Blank)) (command names (words_of line))) (Asking (begins_at line))
    by true e = silent_begins line e
    by false e = command_asks names line

-- ---- a script

behind_asks : (names : List Text) (before lost : ℕ) (line : Text) → IfOk (line_behind names before lost line) (Asking (begins_at line))
behind_asks names before lost line =
    let P = Asking (begins_at line) in
    given P P (line_at names before line) (within_losses lost)
    (if_both P (nat_lt before most_lines) (line_of names line) (Err Long) (line_asks names line) tt)
    (λ asked h. if_both P (loses_reply asked && not (nat_lt lost most_lost_replies)) (Err Long) (Ok asked) tt h)

abbrev AsMany : List Text → List Asked → Type 0
AsMany lines asked = length (filter asks asked) ≡ beginning (codes "at") lines

one_more : (number : ℕ) (line : Text) (lines : List Text) (r : Result Asked Fault) (more : Result (List Asked) (ℕ × Fault))
    → IfOk r (Asking (begins_at line)) → IfOk more (AsMany lines) → IfOk (with_others number r more) (AsMany (line ∷ lines))
one_more number line lines (Err fault) more h m = tt
one_more number line lines (Ok asked) (Err fault) h m = tt
one_more number line lines (Ok asked) (Ok others) h m =
    ap (λ b. length (cond b (asked ∷ filter asks others) (filter asks others))) h ∙ by (begins_at line)
  where
    by : (b : Bool) → length (cond b (asked ∷ filter asks others) (filter asks others))
        ≡ length (cond b (line ∷ filter (λ l. starts_with nat_eq l (codes "at")) lines) (filter (λ l. starts_with nat_eq l (codes "at")) lines))
    by true = ap suc m
    by false = m

lines_ask : (names : List Text) (before lost : ℕ) (lines : List Text) → IfOk (lines_from names before lost lines) (AsMany lines)
lines_ask names before lost [] = refl
lines_ask names before lost (line ∷ lines) =
    let r = line_behind names before lost line in
    one_more (before + 1) line lines r (lines_from names (before + 1) (lost_behind lost r) lines) (behind_asks names before lost line)
    (lines_ask names (before + 1) (lost_behind lost r) lines)

pub requests_are_lines : RequestsAreLines
requests_are_lines names lost script asked taken =
    subst (λ (r : Result (List Asked) (ℕ × Fault)). IfOk r (AsMany (lines_of script))) taken (lines_ask names 0 lost (lines_of script))
