-- Each message of a request has its cause (X.518, section 10 and sections 18 to 20: chaining, referrals and
-- multi-chaining). A journal has the newest line first.
use Rattle.std.specs.Prelude.{◌≡◌, ℕ, zero, suc, ◌+◌, ◌-◌, ◌<◌, Bool, true, false, not, ◌&&◌, ◌||◌, ◌==◌, if◌then◌else◌}
use Rattle.std.specs.Prelude.{IsTrue, List, [], ◌∷◌, ◌++◌, length, slice_index, take, ⊤}
use Rattle.std.specs.List.{list_any, list_all, Contains}
use Rattle.std.specs.Cmp.Lexicographic.{pointwise}
use Rattle.std.specs.declared.option.Option.{Option}
use Rattle.std.specs.declared.option.Option.TheVariants.{None, Some}
use Rattle.x5_model.specs.Words.{has, in_option, first_of}
use Rattle.x5_model.specs.Keys.{Key}
use Rattle.x5_model.specs.Values.{Name, key_of}
use Rattle.x5_model.specs.Requests.{Subset, Base, OneLevel, WholeSubtree, Only, Body, Read, Compare, ListBelow, Search}
use Rattle.x5_model.specs.Requests.{AddEntry, RemoveEntry, ModifyEntry, ModifyDn, Request}
use Rattle.x5_model.specs.References.{Start, Reference, Subordinate, Own, Chained}
use Rattle.x5_model_tree.specs.World.{Network}
use Rattle.x5_model_tree.specs.Ask.{is_update}
use Rattle.x5_model_run.specs.Network.{Fate, arrives, is_unheard, is_sent, refuses, fate_of}
use Rattle.x5_model_run.specs.Journal.{Line, depth, operation_of, same_sender, same_progress, same_name}
use Rattle.x5_model_run.specs.Journal.{same_spelled_rdn, same_message, is_done, is_wide, same_kind, item_of, settled}
use Rattle.x5_model_run.specs.Journal.{siblings, some_line, opened_by, leads_up}
use Rattle.x5_model_run.specs.Holdings.{Holdings, masters_pin, copy_at}
use Rattle.x5_model_run.specs.Needs.{target_of, falls_short, needs}
use Rattle.x5_model_run.specs.History.{Point, network_at, sent_before, holdings_at}

-- What the lines of a request are judged by: what each agent holds, the network, how many messages were sent before,
-- the agent that the user asks, what it is asked, and whether the user follows referrals.
pub record Scene : Type 0 where
  pub holdings : ℕ → Holdings
  pub network : Network
  pub sent : ℕ
  pub first : ℕ
  pub message : Chained
  pub follows : Bool

-- what a user asks: nothing is resolved, and nobody passed it on
abbrev pub opening : Request → Chained
opening r = record { target = target_of r.body; progress = Start; kind = Own; exclusions = []; trace = []; request = r }

-- over consistent knowledge, a message of a user who doesn't follow
abbrev pub scene_with : Point → ℕ → Chained → Scene
scene_with p first m = record {
  holdings = holdings_at p;
  network = network_at p;
  sent = sent_before p.past;
  first = first;
  message = m;
  follows = false;
}

-- and a request of his
abbrev pub scene_at : Point → ℕ → Request → Scene
scene_at p first r = scene_with p first (opening r)

abbrev pub is_prohibited : Scene → Bool
is_prohibited s = s.message.request.controls.nochain

-- A probe reads the new name of an update, without attributes, without copies, chained by whom it reaches. It is the
-- one message of an update whose target isn't the update's.
abbrev pub probe_request : Name → Request
probe_request name =
    record { controls = record { nocopy = true; nochain = false; size = None }; body = Read name (Only []) }

abbrev pub is_probe : Body → Name → Bool
is_probe body target = is_update body && not (same_name (target_of body) target)

-- what is asked of a part: its base is the reference's target. What was asked just below an entry is asked of the pin
-- itself; by a nonSpecific reference it stays.
abbrev pub part_subset : Bool → Subset → Subset
part_subset wide Base = Base
part_subset true OneLevel = OneLevel
part_subset false OneLevel = Base
part_subset wide WholeSubtree = WholeSubtree

abbrev pub part_body : Bool → Name → Body → Body
part_body wide base (Read name selection) = Read name selection
part_body wide base (Compare name assertion) = Compare name assertion
part_body wide base (ListBelow name) = ListBelow base
part_body wide base (Search old subset f selection) = Search base (part_subset wide subset) f selection
part_body wide base (AddEntry name attributes) = AddEntry name attributes
part_body wide base (RemoveEntry name) = RemoveEntry name
part_body wide base (ModifyEntry name changes) = ModifyEntry name changes
part_body wide base (ModifyDn name rdn drops) = ModifyDn name rdn drops

-- a part of a list or search has no size limit, and chainingProhibited only where the user asks for it
abbrev pub part_request : Bool → Bool → Name → Request → Request
part_request by_user wide base r =
    record {
      controls = record { nocopy = r.controls.nocopy; nochain = by_user && r.controls.nochain; size = None };
      body = part_body wide base r.body;
    }

-- by a reference to a pin, or to the parts below an entry
abbrev pub asks_part : Reference → Bool
asks_part r = is_done r.progress && (same_kind r.kind Subordinate || is_wide r.kind)

-- the request that goes with a reference, for a message that carried this one
abbrev pub request_for : Bool → Request → Name → Reference → Request
request_for by_user asked target r =
    if is_probe asked.body target then probe_request target
    else (if asks_part r then part_request by_user (is_wide r.kind) target asked else asked)

abbrev pub is_user : Option ℕ → Bool
is_user None = true
is_user (Some a) = false

-- What is carried by a reference that the owner of a message needs: target and exclusions are spelled as the reference
-- spells them, and the trace is the message's and the owner's item (X.518, section 10.3: chaining arguments).
abbrev pub carried : Option ℕ → ℕ → Chained → Reference → Chained
carried sender owner m r = record {
  target = r.target;
  progress = r.progress;
  kind = r.kind;
  exclusions = r.exclusions;
  trace = m.trace ++ item_of owner m ∷ [];
  request = request_for (is_user sender) m.request r.target r;
}

-- what follows of such a message, where only keys matter
pub record IsCarried (sender : Option ℕ) (opener : Line) (r : Reference) (m : Chained) : Type 0 where
  pub target_is : IsTrue (same_name r.target m.target)
  pub progress_is : m.progress ≡ r.progress
  pub kind_is : m.kind ≡ r.kind
  pub exclusions_are : IsTrue (pointwise same_spelled_rdn r.exclusions m.exclusions)
  pub trace_is : m.trace ≡ opener.message.trace ++ item_of opener.receiver opener.message ∷ []
  pub request_is : m.request ≡ request_for (is_user sender) opener.message.request m.target r

-- a line for the message of the line of that number that asks this agent by the reference
abbrev pub asks_by : Reference → ℕ → Line → Bool
asks_by r a l =
    (l.receiver == a) && (same_progress l.message.progress r.progress && same_name l.message.target r.target)

abbrev pub is_asked : (Fate → Bool) → List Line → ℕ → Reference → ℕ → Bool
is_asked fated lines number r a =
    some_line (λ l before. fated l.fate && (asks_by r a l && opened_by number before l)) lines

-- it was heard, and holds nothing of what is looked for
abbrev pub is_cleared : Scene → List Line → ℕ → Reference → ℕ → Bool
is_cleared s lines number r a =
    is_asked is_sent lines number r a && falls_short (s.holdings a) (key_of r.target) r.progress

-- the agents further up an agent's chain of suppliers; it has four hops at most
abbrev pub suppliers_above : ℕ → Scene → Key → ℕ → List ℕ
suppliers_above zero s pin a = []
suppliers_above (suc n) s pin a =
    in_option [] (λ c. c.supplier ∷ suppliers_above n s pin c.supplier) (copy_at (s.holdings a) pin)

-- A line of a probe is broken: it is `sent` to a consumer that doesn't master the context of the new name, and a line
-- with that target, below it by lines that all are `sent`, to an agent further up the chain of suppliers isn't heard.
abbrev pub is_broken_off : Scene → Line → Line → List Line → Bool
is_broken_off s e l before =
    is_unheard l.fate
    && (same_name l.message.target e.message.target
    && (has ◌==◌ (suppliers_above 4 s (key_of e.message.target) e.receiver) l.receiver
    && leads_up (λ x. (x.number == e.number) && is_sent x.fate) (λ x. is_sent x.fate) (depth l - 1) before))

abbrev pub is_broken_line : Scene → List Line → Line → Bool
is_broken_line s lines e =
    is_sent e.fate && (not (masters_pin (s.holdings e.receiver) (key_of e.message.target))
    && some_line (is_broken_off s e) lines)

abbrev pub is_broken : Scene → List Line → ℕ → Reference → ℕ → Bool
is_broken s lines number r a =
    some_line (λ e before. asks_by r a e && (opened_by number before e && is_broken_line s lines e)) lines

-- what was asked of an agent for the message of a line gave nothing: it wasn't heard, or, in a probe, is broken
abbrev pub is_in_vain : Scene → List Line → Line → Reference → ℕ → Bool
is_in_vain s lines o r a =
    is_asked is_unheard lines o.number r a || (is_probe o.message.request.body r.target
    && is_broken s lines o.number r a)

-- An agent of a reference was passed: it was asked in vain or, by a nonSpecific reference in name resolution, holds
-- nothing of what is looked for.
abbrev pub is_passed : Scene → List Line → Line → Reference → ℕ → Bool
is_passed s lines o r a = is_in_vain s lines o r a || (is_wide r.kind && is_cleared s lines o.number r a)

-- the receiver stands in the reference, and those that stand before it were passed
pub record Turn (s : Scene) (before : List Line) (o : Line) (r : Reference) (receiver : ℕ) : Type 0 where
  pub place : ℕ
  pub inside : place < length r.agents
  pub here : slice_index r.agents place ≡ receiver
  pub earlier : IsTrue (list_all (is_passed s before o r) (take place r.agents))

-- Who sends: the owner; or, where the owner refuses to chain, the agent from which its message came, and that heard the
-- owner's referral; or the user who follows, where the owner refuses or chaining is prohibited.
abbrev pub may_send : Scene → Line → Option ℕ → Bool
may_send s o (Some a) =
    (a == o.receiver) || (refuses s.network o.receiver && (same_sender o.sender (Some a) && is_sent o.fate))
may_send s o None =
    s.follows && (is_user o.sender && (is_sent o.fate && (refuses s.network o.receiver || is_prohibited s)))

-- a read in the journal of an update is a probe's
abbrev pub is_probe_line : Scene → Line → Bool
is_probe_line s l = is_update s.message.request.body && (operation_of l.message.request.body == 1)

-- who sends doesn't refuse to chain, and chaining isn't prohibited; the user may send, and so may who sends a probe
abbrev pub may_chain : Scene → Line → Option ℕ → Bool
may_chain s l None = true
may_chain s l (Some a) = is_probe_line s l || (not (refuses s.network a) && not (is_prohibited s))

-- The line is sent for the message of an earlier line, the last one whose t is one less and that no less deep line
-- follows: its receiver, the owner, needs a reference, and the line asks the next of its agents.
pub record Follows (s : Scene) (before : List Line) (l : Line) : Type 0 where
  pub above : ℕ
  pub opener : Line
  pub reference : Reference
  pub deeper : depth l ≡ above + 1
  pub opens : first_of (settled above before) ≡ Some opener
  pub at_above : depth opener ≡ above
  pub arrived : IsTrue (arrives opener.fate)
  pub needed : Contains (needs (s.holdings opener.receiver) opener.message) reference
  pub carries : l.message ≡ carried l.sender opener.receiver opener.message reference
  pub sender_is : IsTrue (may_send s opener l.sender)
  pub chains : IsTrue (may_chain s l l.sender)
  pub turn : Turn s before opener reference l.receiver

-- the user's message, or the raw message that was brought
pub record IsFirst (s : Scene) (l : Line) : Type 0 where
  pub sender_is : l.sender ≡ None
  pub receiver_is : l.receiver ≡ s.first
  pub message_is : l.message ≡ s.message

-- none of the lines for the same message asks the same of the same agent
abbrev pub is_fresh : List Line → Line → Bool
is_fresh tried l = not (list_any (same_message l) tried)

pub data Caused (s : Scene) : List Line → Line → Type 0 where
  begins : {l : Line} → IsFirst s l → Caused s [] l
  later : {before : List Line} {l : Line} (f : Follows s before l) → IsTrue (is_fresh (siblings f.above before) l) →
      Caused s before l

pub record Licensed (s : Scene) (before : List Line) (l : Line) : Type 0 where
  pub number_is : l.number ≡ s.sent + length before + 1
  pub fate_is : l.fate ≡ fate_of s.network l.number l.sender l.receiver
  pub cause : Caused s before l

-- each line of the journal is licensed by what came before it
abbrev pub AllLicensed : Scene → List Line → Type 0
AllLicensed s [] = ⊤
AllLicensed s (l ∷ before) = Licensed s before l × AllLicensed s before
