-- Whatever agents a line names have names: an agent is found by its name, and what is asked for names no others.
use Rattle.std.proofs.Common.{◌≡◌, ℕ, ◌<◌, Bool, true, false, if◌then◌else◌, All, not, ◌+◌, ◌&&◌, List, [], ◌∷◌, length, codes, Option, None, Some, Result, Ok, Err, refl, nat_eq, nat_lt, IfOk}
use Rattle.std.proofs.lemmas.List.Elements.{All-nil, All-cons}
use Rattle.std.proofs.lemmas.List.Quantifiers.{position-Some}
use Rattle.x5_model.specs.Values.{Text}
use Rattle.x5_model.specs.Requests as ask
use Rattle.x5_model.specs.Words.{same_octets}
use Rattle.x5_model_run.specs.Network as network
use Rattle.x5_model_run.specs.Run as run
use Rattle.x5_model_script.specs.Words.{Fault, Long, BadWord, BadName, BadHex, ◌>>=◌, or_fault, Word, Left, next, ended, words_of}
use Rattle.x5_model_script.specs.Texts as texts
use Rattle.x5_model_script.specs.Lines.{Asked, Runs, Delivers, agent, reading, operation, controls, requested, request, one_agent, outage, differs, other_agent, two_agents, pair, refresh, lose, deliver, outage_by, command_by, command, most_octets, is_silent, line_of}
use Rattle.x5_model_script.specs.Script.{most_lines, line_at, loses_reply, within_losses, line_behind, lost_behind, with_others, lines_of, lines_from, script_of}
use Rattle.x5_model_script.specs.Named.{AreNamed, ScriptsNameAgents}
use Rattle.x5_model_tree.specs.Described.{most_lost_replies}

-- what holds of what is read holds through a step

whatever : {A B : Type 0} (P : B → Type 0) (r : Result A Fault) (f : A → Result B Fault) → ((x : A) → IfOk (f x) P) → IfOk (r >>= f) P
whatever P (Err e) f h = tt
whatever P (Ok x) f h = h x

given : {A B : Type 0} (P : B → Type 0) (Q : A → Type 0) (r : Result A Fault) (f : A → Result B Fault) → IfOk r Q → ((x : A) → Q x → IfOk (f x) P)
    → IfOk (r >>= f) P
given P Q (Err e) f q h = tt
given P Q (Ok x) f q h = h x q

either : {A : Type 0} (P : A → Type 0) (b : Bool) (r s : Result A Fault) → IfOk r P → IfOk s P → IfOk (if b then r else s) P
either P true r s p q = p
either P false r s p q = q

-- agents, one by one

abbrev Within : List Text → ℕ → Type 0
Within names a = a < length names

nobody : (names : List Text) → All (Within names) []
nobody names = All-nil (Within names)

just : (names : List Text) (a : ℕ) → a < length names → All (Within names) (a ∷ [])
just names a h = All-cons (Within names) a [] h (nobody names)

pair_of : (names : List Text) (a b : ℕ) → a < length names → b < length names → All (Within names) (a ∷ b ∷ [])
pair_of names a b h l = All-cons (Within names) a (b ∷ []) h (just names b l)

-- an agent that is found

abbrev IsAgent : List Text → ℕ × Left → Type 0
IsAgent names to = to.0 < length names

abbrev agent_at : Word × Left → ℕ → Result (ℕ × Left) Fault
agent_at w a = Ok (a, w.1)

found : (names : List Text) (w : Word × Left) (o : Option ℕ) → texts.agent_in names w.0.text ≡ o
    → IfOk (or_fault (BadName w.0.column) o >>= agent_at w) (IsAgent names)
found names w None h = tt
found names w (Some a) h = (position-Some (λ n. same_octets n w.0.text) names a [] h).0

agent_is : (names : List Text) (left : Left) → IfOk (agent names left) (IsAgent names)
agent_is names left =
    whatever (IsAgent names) (next left) (λ w. or_fault (BadName w.0.column) (texts.agent_in names w.0.text) >>= agent_at w)
    (λ w. found names w (texts.agent_in names w.0.text) refl)

-- requests and octets

abbrev asks : ℕ → ask.Controls × Left → ask.Body × Left → Unit {0} → Result Asked Fault
asks to asked body nothing = Ok (Runs (run.Asks to (record { controls = asked.0; body = body.0 })))

request_named : (names : List Text) (left : Left) → IfOk (request names left) (AreNamed names)
request_named names left =
    given (AreNamed names) (IsAgent names) (agent names left) (λ to. requested to.0 (controls to.1)) (agent_is names left)
    (λ to h. whatever (AreNamed names) (operation (controls to.1).1) (λ body. ended body.1 >>= asks to.0 (controls to.1) body)
    (λ body. whatever (AreNamed names) (ended body.1) (asks to.0 (controls to.1) body) (λ nothing. just names to.0 h)))

abbrev delivers : Bool → ℕ → List ℕ → Unit {0} → Result Asked Fault
delivers dsp to octets nothing = Ok (Delivers dsp to octets)

abbrev octets_behind : Bool → ℕ → Left → Result Asked Fault
octets_behind dsp to left = reading texts.octets_in BadHex left >>= (λ octets. ended octets.1 >>= delivers dsp to octets.0)

deliver_named : (names : List Text) (left : Left) → IfOk (deliver names left) (AreNamed names)
deliver_named names left =
    whatever (AreNamed names) (reading texts.protocol_in BadWord left) (λ dsp. agent names dsp.1 >>= (λ to. octets_behind dsp.0 to.0 to.1))
    (λ dsp. given (AreNamed names) (IsAgent names) (agent names dsp.1) (λ to. octets_behind dsp.0 to.0 to.1) (agent_is names dsp.1)
    (λ to h. whatever (AreNamed names) (reading texts.octets_in BadHex to.1) (λ octets. ended octets.1 >>= delivers dsp.0 to.0 octets.0)
    (λ octets. whatever (AreNamed names) (ended octets.1) (delivers dsp.0 to.0 octets.0) (λ nothing. just names to.0 h))))

-- one agent, and two

abbrev only : ℕ → Unit {0} → Result ℕ Fault
only a nothing = Ok a

one_is : (names : List Text) (left : Left) → IfOk (one_agent names left) (λ a. a < length names)
one_is names left =
    given (λ a. a < length names) (IsAgent names) (agent names left) (λ a. ended a.1 >>= only a.0) (agent_is names left)
    (λ a h. whatever (λ b. b < length names) (ended a.1) (only a.0) (λ nothing. h))

abbrev changed : (ℕ → network.Outage) → ℕ → Result Asked Fault
changed change a = Ok (Runs (run.Changes (change a)))

outage_named : (names : List Text) (change : ℕ → network.Outage) → ((a : ℕ) → a < length names → AreNamed names (Runs (run.Changes (change a)))) → (left : Left)
    → IfOk (outage change names left) (AreNamed names)
outage_named names change so left =
    given (AreNamed names) (λ a. a < length names) (one_agent names left) (changed change) (one_is names left) so

abbrev other_at : ℕ → Word × Left → ℕ → Result (ℕ × Left) Fault
other_at first w b = differs w.0.column first b >>= agent_at w

other_found : (names : List Text) (first : ℕ) (w : Word × Left) (o : Option ℕ) → texts.agent_in names w.0.text ≡ o
    → IfOk (or_fault (BadName w.0.column) o >>= other_at first w) (IsAgent names)
other_found names first w None h = tt
other_found names first w (Some b) h =
    given (IsAgent names) (λ c. c < length names) (differs w.0.column first b) (agent_at w)
    (either (λ c. c < length names) (nat_eq first b) (Err (BadWord w.0.column)) (Ok b) tt (position-Some (λ n. same_octets n w.0.text) names b [] h).0)
    (λ c l. l)

other_is : (names : List Text) (first : ℕ) (left : Left) → IfOk (other_agent first names left) (IsAgent names)
other_is names first left =
    whatever (IsAgent names) (next left) (λ w. or_fault (BadName w.0.column) (texts.agent_in names w.0.text) >>= other_at first w)
    (λ w. other_found names first w (texts.agent_in names w.0.text) refl)

abbrev AreAgents : List Text → ℕ × ℕ → Type 0
AreAgents names both = (both.0 < length names) × (both.1 < length names)

abbrev both_of : ℕ → ℕ → Unit {0} → Result (ℕ × ℕ) Fault
both_of a b nothing = Ok (a, b)

two_are : (names : List Text) (left : Left) → IfOk (two_agents names left) (AreAgents names)
two_are names left =
    given (AreAgents names) (IsAgent names) (agent names left) (λ a. other_agent a.0 names a.1 >>= (λ b. ended b.1 >>= both_of a.0 b.0)) (agent_is names left)
    (λ a h. given (AreAgents names) (IsAgent names) (other_agent a.0 names a.1) (λ b. ended b.1 >>= both_of a.0 b.0) (other_is names a.0 a.1)
    (λ b l. whatever (AreAgents names) (ended b.1) (both_of a.0 b.0) (λ nothing. (h, l))))

abbrev changed_both : (ℕ → ℕ → network.Outage) → ℕ × ℕ → Result Asked Fault
changed_both change both = Ok (Runs (run.Changes (change both.0 both.1)))

pair_named : (names : List Text) (change : ℕ → ℕ → network.Outage) → ((a b : ℕ) → a < length names → b < length names → AreNamed names (Runs (run.Changes (change a b)))) → (left : Left)
    → IfOk (pair change names left) (AreNamed names)
pair_named names change so left =
    given (AreNamed names) (AreAgents names) (two_agents names left) (changed_both change) (two_are names left) (λ both h. so both.0 both.1 h.0 h.1)

outage_by_named : (names : List Text) (w : Word) (left : Left) → IfOk (outage_by names w left) (AreNamed names)
outage_by_named names w left =
    let P = AreNamed names in
    either P (same_octets w.text (codes "down")) _ _ (outage_named names network.Down (just names) left)
    (either P (same_octets w.text (codes "up")) _ _ (outage_named names network.Up (just names) left)
    (either P (same_octets w.text (codes "refuse")) _ _ (outage_named names network.Refuse (just names) left)
    (either P (same_octets w.text (codes "willing")) _ _ (outage_named names network.Willing (just names) left)
    (either P (same_octets w.text (codes "cut")) _ _ (pair_named names network.Cut (pair_of names) left)
    (either P (same_octets w.text (codes "join")) _ _ (pair_named names network.Join (pair_of names) left) tt)))))

-- what names no agent

abbrev loses : Bool → ℕ → Unit {0} → Result Asked Fault
loses reply k nothing = Ok (Runs (run.Drops reply k))

lose_named : (names : List Text) (left : Left) → IfOk (lose left) (AreNamed names)
lose_named names left =
    let P = AreNamed names in
    whatever P (reading texts.loss_kind_in BadWord left) (λ reply. reading texts.loss_in BadWord reply.1 >>= (λ k. ended k.1 >>= loses reply.0 k.0))
    (λ reply. whatever P (reading texts.loss_in BadWord reply.1) (λ k. ended k.1 >>= loses reply.0 k.0)
    (λ k. whatever P (ended k.1) (loses reply.0 k.0) (λ nothing. nobody names)))

abbrev refreshes : ℕ → Bool → Bool → Unit {0} → Result Asked Fault
refreshes id pushes total nothing = Ok (Runs (run.Updates id pushes total))

refresh_named : (names : List Text) (pushes : Bool) (left : Left) → IfOk (refresh pushes left) (AreNamed names)
refresh_named names pushes left =
    let P = AreNamed names in
    whatever P (reading texts.agreement_in BadWord left) (λ id. reading texts.strategy_in BadWord id.1 >>= (λ total. ended total.1 >>= refreshes id.0 pushes total.0))
    (λ id. whatever P (reading texts.strategy_in BadWord id.1) (λ total. ended total.1 >>= refreshes id.0 pushes total.0)
    (λ total. whatever P (ended total.1) (refreshes id.0 pushes total.0) (λ nothing. nobody names)))

command_by_named : (names : List Text) (w : Word) (left : Left) → IfOk (command_by names w left) (AreNamed names)
command_by_named names w left =
    let P = AreNamed names in
    either P (same_octets w.text (codes "at")) _ _ (request_named names left)
    (either P (same_octets w.text (codes "pull")) _ _ (refresh_named names false left)
    (either P (same_octets w.text (codes "push")) _ _ (refresh_named names true left)
    (either P (same_octets w.text (codes "lose")) _ _ (lose_named names left)
    (either P (same_octets w.text (codes "deliver")) _ _ (deliver_named names left) (outage_by_named names w left)))))

pub command_named : (names : List Text) (left : Left) → IfOk (command names left) (AreNamed names)
command_named names left = whatever (AreNamed names) (next left) (λ w. command_by names w.0 w.1) (λ w. command_by_named names w.0 w.1)

pub line_named : (names : List Text) (line : Text) → IfOk (line_of names line) (AreNamed names)
line_named names line =
    let P = AreNamed names in
    either P (nat_lt most_octets (length line)) _ _ tt (either P (is_silent line) _ _ (nobody names) (command_named names (words_of line)))

-- ---- a script

-- what is asked for within the losses is what was asked for
within_named : (names : List Text) (lost : ℕ) (asked : Asked) → AreNamed names asked → IfOk (within_losses lost asked) (AreNamed names)
within_named names lost asked h =
    either (AreNamed names) (loses_reply asked && not (nat_lt lost most_lost_replies)) (Err Long) (Ok asked) tt h

behind_named : (names : List Text) (before lost : ℕ) (line : Text) → IfOk (line_behind names before lost line) (AreNamed names)
behind_named names before lost line =
    let P = AreNamed names in
    given P P (line_at names before line) (within_losses lost)
    (either P (nat_lt before most_lines) (line_of names line) (Err Long) (line_named names line) tt)
    (λ asked h. within_named names lost asked h)

one_more : (names : List Text) (number : ℕ) (r : Result Asked Fault) (more : Result (List Asked) (ℕ × Fault)) → IfOk r (AreNamed names)
    → IfOk more (All (AreNamed names)) → IfOk (with_others number r more) (All (AreNamed names))
one_more names number (Err fault) more h m = tt
one_more names number (Ok asked) (Ok others) h m = All-cons (AreNamed names) asked others h m
one_more names number (Ok asked) (Err fault) h m = tt

lines_named : (names : List Text) (before lost : ℕ) (lines : List Text) → IfOk (lines_from names before lost lines) (All (AreNamed names))
lines_named names before lost [] = All-nil (AreNamed names)
lines_named names before lost (line ∷ lines) =
    let r = line_behind names before lost line in
    one_more names (before + 1) r (lines_from names (before + 1) (lost_behind lost r) lines) (behind_named names before lost line)
    (lines_named names (before + 1) (lost_behind lost r) lines)

pub script_named : ScriptsNameAgents
script_named names lost octets = lines_named names 0 lost (lines_of octets)
