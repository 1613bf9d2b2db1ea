-- Summaries of blocks built by hand, and that as many lines of the blocks' text begin with each word.
use Rattle.std.proofs.Common.{◌≡◌, ℕ, ◌==◌, pos, true, false, List, [], ◌∷◌, length, None, Some, refl, codes}
use Rattle.std.specs.Prelude.{nat_eq}
use Rattle.std.specs.Fmt.{digits}
use Rattle.std.specs.List.{filter, slice_split, starts_with}
use Rattle.x5_model.specs.Values.{Text, Known, TextValue}
use Rattle.x5_model.specs.References.{Reference, Done as Completed, NonSpecific}
use Rattle.x5_model.specs.Answers.{EntryInfo, EntryFound, Found, Answered, Failed, Referred}
use Rattle.x5_model.specs.Answers.{NoSuchObject}
use Rattle.x5_model_octets.specs.Faults.{Truncated}
use Rattle.x5_model_octets.specs.Breaches.{Ber, Unrecognised}
use Rattle.x5_model_run.specs.Journal.{Journal}
use Rattle.x5_model_run.specs.Network.{Sent, NoReply}
use Rattle.x5_model_run.specs.Refresh as refresh
use Rattle.x5_model_run.specs.Run.{Dap, Dsp, Command, Blank, Updates, Block, Set, Replies, Refreshing, Rejected}
use Rattle.x5_model_output.specs.Output.{Names, blocks_text, block_text}
use Rattle.x5_model_output.specs.Summary.{Counts, counts_of, summary_line}

-- lines of a text that begin with the word
abbrev lines_with : Text → Text → ℕ
lines_with word text = length (filter (λ line. starts_with nat_eq line word) (slice_split (λ b. b == 10) text))

abbrev names : Names
names = record { agent = λ a. codes "Alpha"; moment = λ m. codes "19930101000000Z" }

abbrev info : EntryInfo
info = record {
  name = [];
  copy = true;
  attributes = (record {
    kind = Known 13;
    values = TextValue (codes "entry")
        ∷ [];
  }) ∷ [];
}

abbrev reference : Reference
reference = record {
  target = [];
  progress = Completed;
  kind = NonSpecific;
  agents = 0
      ∷ [];
  exclusions = [];
  tried = true;
}

abbrev quiet : Journal
quiet = record { lines = []; accepted = [] }

abbrev taken : Journal
taken = record { lines = []; accepted = 0 ∷ [] }

-- a search that found a copy and left something out, an accepted update whose reply was lost, a referral, and refreshes
abbrev blocks : List Block
blocks =
    Replies quiet (Answered (Found (info ∷ info ∷ []) [] (record { limited = true; unexplored = reference ∷ [] })))
    ∷ Set
    ∷ Replies taken (Failed (NoSuchObject []))
    ∷ Replies quiet (Referred reference)
    ∷ Refreshing (record {
      lines = [];
      outcome = refresh.Done
          (record { agreement = 1; total = false; stamp = 4; count = 1; acknowledged = false });
    })
    ∷ Refreshing (record { lines = []; outcome = refresh.Missed (Some 4) None })
    ∷ Refreshing (record { lines = []; outcome = refresh.Unheard })
    ∷ []

abbrev commands : List Command
commands = Blank ∷ Blank ∷ Blank ∷ Blank ∷ Updates 1 false false ∷ Updates 1 true false ∷ Updates 2 false true ∷ []

abbrev printed : Text
printed = blocks_text names 1 commands blocks

summed : summary_line (counts_of blocks)
    ≡ codes "summary requests 3 entries 2 subs 0 errors 2 referrals 1 unexplored 1 accepted 1 refreshed 1\n"
unfolding digits
summed = refl

-- a read that is answered with an entry
one_read : summary_line (counts_of (Replies quiet (Answered (EntryFound info
    (record { context = []; agent = 0; moment = None }))) ∷ []))
    ≡ codes "summary requests 1 entries 1 subs 0 errors 0 referrals 0 unexplored 0 accepted 0 refreshed 0\n"
unfolding digits
one_read = refl

-- as in the text
abbrev by_text : Counts
by_text =
    record {
      requests = 3;
      entries = lines_with (codes "entry") printed;
      subs = lines_with (codes "sub") printed;
      errors = lines_with (codes "error") printed;
      referrals = lines_with (codes "referral") printed;
      unexplored = lines_with (codes "unexplored") printed;
      accepted = lines_with (codes "accepted") printed;
      refreshed = lines_with (codes "refreshed") printed;
    }

same : by_text ≡ counts_of blocks
unfolding digits
same = refl

-- octets of which the last is missing, and a message of an operation that the protocol lacks
cut_off : block_text names 1 Blank (Rejected (record { protocol = Dap; receiver = 0; count = 26; fate = Sent }) (Ber (Truncated 26)))
    ≡ codes "#1\nraw Alpha dap 26 sent\nreject truncated 26\n"
unfolding digits
cut_off = refl

unknown_code : block_text names 2 Blank (Rejected (record { protocol = Dap; receiver = 0; count = 9; fate = Sent }) (Unrecognised (pos 3)))
    ≡ codes "#2\nraw Alpha dap 9 sent\nreject unrecognised 3\n"
unfolding digits
unknown_code = refl

-- so it is of octets that are handed over as another agent's message
between_agents : block_text names 1 Blank (Rejected (record { protocol = Dsp; receiver = 0; count = 66; fate = Sent }) (Ber (Truncated 66)))
    ≡ codes "#1\nraw Alpha dsp 66 sent\nreject truncated 66\n"
unfolding digits
between_agents = refl

-- nothing is heard where the reply is lost
unheard : block_text names 1 Blank (Rejected (record { protocol = Dap; receiver = 0; count = 26; fate = NoReply }) (Ber (Truncated 26)))
    ≡ codes "#1\nraw Alpha dap 26 noreply\n"
unfolding digits
unheard = refl
