-- One agent that is given one prefix twice, in two spellings: the world is described, and its knowledge isn't
-- consistent. The agent holds the first of the two in the order of the file, and of the second neither entries, NSSRs
-- nor spelling: by that it finds names, judges updates and names its sources.
use Rattle.std.specs.Prelude.{◌≡◌, ℕ, [], ◌∷◌, map}
use Rattle.std.specs.declared.option.Option.TheVariants.{None, Some}
use Rattle.std.specs.declared.result.Result.TheVariants.{Ok, Err}
use Rattle.std.specs.Str.{chars}
use Rattle.std.proofs.Common.{refl, ap}
use Rattle.caseless.proofs.Computing.{caseless}
use lib.Chars.{codes}
use lib.Utf8.{encode}
use Rattle.x5_model.specs.Values.{Name, key_of}
use Rattle.x5_model.specs.Normal.{folded}
use Rattle.x5_model.specs.Entries.{Named}
use Rattle.x5_model.specs.Requests.{AddEntry, Read, Only, Body, Request}
use Rattle.x5_model.specs.References.{Chained}
use Rattle.x5_model.specs.Answers.{NoSuchObject, UpdateProblem, EntryFound, EntryInfo, Source, Reply, Answered, Failed}
use Rattle.x5_model.specs.Problems.{entry_already_exists}
use Rattle.x5_model_tree.specs.World.{Context, Agent, World}
use Rattle.x5_model_tree.specs.Described.{IsDescribed}
use Rattle.x5_model_tree.specs.Apply.{UpdatedEntries, apply_over}
use Rattle.x5_model_tree.specs.Consistent.{breach, AgentPrinted, NamePrinted, first_breach}
use Rattle.x5_model_run.specs.Network.{Sent}
use Rattle.x5_model_run.specs.Journal.{Journal}
use Rattle.x5_model_run.specs.Holdings.{Held, Holdings, held_at, ground_at}
use Rattle.x5_model_run.specs.Chain.{Scene, opening, scene_at}
use Rattle.x5_model_run.specs.Stage.{budget}
use Rattle.x5_model_held.specs.Beginning.{holdings_described}
use Rattle.x5_model_serve.specs.Serving.{IsRequest, answers, nowhere, reads}
use Rattle.x5_model_determined.proofs.Once.{request_is_determined}
use Rattle.x5_model_rows.proofs.Literals.{rdn, under, class, one, text, oid, named, give, plainly}
use Rattle.x5_model_rows.proofs.BaseWorld.{acme, desk, acme_entry, desk_entry, acme_context, alpha, beta, gamma, delta}
use Rattle.x5_model_rows.proofs.BaseWorld.{epsilon, first_agreement, world_of}
use Rattle.x5_model_rows.proofs.Messages.{asks, journal, point, now, bare}
use Rattle.x5_model_rows.proofs.Walking.{loud, loud_entry}

-- Beta's two contexts: /C=NL/O=Acme with a desk, and /C=NL/O=ACME with a pen and an NSSR
abbrev pub pen : Name
pen = under loud (rdn 3 (codes "Pen") (codes "pen"))

abbrev pub pen_entry : Named
pen_entry =
    named pen (class 7 ∷ one 3 (text (codes "Pen") (codes "pen")) ∷ one 4 (text (codes "Pen") (codes "pen")) ∷ [])

abbrev pub with_desk : Context
with_desk = record acme_context { nssrs = [] }

abbrev pub with_pen : Context
with_pen =
    record {
      prefix = loud;
      entries = loud_entry ∷ pen_entry ∷ [];
      nssrs = (record { at = loud; agents = 2 ∷ [] }) ∷ [];
    }

abbrev pub two_at_beta : Context → Context → World
two_at_beta a b =
    world_of (alpha ∷ (record beta { contexts = a ∷ b ∷ [] }) ∷ gamma ∷ delta ∷ epsilon ∷ []) (first_agreement ∷ [])

abbrev pub desk_first : World
desk_first = two_at_beta with_desk with_pen

abbrev pub pen_first : World
pen_first = two_at_beta with_pen with_desk

-- a file may describe it, and it's told as a breach, with the second's spelling
pub is_described : IsDescribed desk_first
unfolding caseless folded chars encode
is_described =
    record {
      agents_there = refl;
      names_apart = refl;
      agents = refl;
      superiors = refl;
      agreements = refl;
      numbers_apart = refl;
      stored = refl;
      listed = refl;
      limits = refl;
      network = refl;
    }

pub is_told : first_breach desk_first ≡ Some (breach 1 (NamePrinted loud) (AgentPrinted 1))
is_told = refl

-- What Beta holds, from either file. Refused: the last of the two, both, and one with the entries of both.
abbrev pub as_held : Context → Held
as_held c = record { prefix = c.prefix; entries = c.entries; subordinate = []; nssrs = c.nssrs }

pub holds_desk : (holdings_described desk_first 1).own ≡ as_held with_desk ∷ []
holds_desk = refl

pub holds_pen : (holdings_described pen_first 1).own ≡ as_held with_pen ∷ []
holds_pen = refl

-- Were both held, whoever asks for the context by its pin would have the first. Refused: the last.
pub first_is_meant : held_at (as_held with_pen ∷ as_held with_desk ∷ []) (key_of acme) ≡ Some (as_held with_pen)
first_is_meant = refl

-- What Beta makes of an update, from either file. A name that only the second context has is free; the name above is
-- spelled as the first has it. Refused: that a name is taken which the second alone has; that it's free where the first
-- has it; and the second's spelling.
abbrev pub adds : Name → Body
adds name = AddEntry name (give 0 (oid (2 ∷ 5 ∷ 6 ∷ 7 ∷ []) ∷ []) ∷ [])

abbrev pub judged_at : World → Body → UpdatedEntries
judged_at w b = apply_over (ground_at (plainly b) (holdings_described w 1)) b

abbrev pub new_at : Name → Named
new_at name = named name (class 7 ∷ [])

pub desk_is_taken : judged_at desk_first (adds desk) ≡ Err (UpdateProblem entry_already_exists)
desk_is_taken = refl

abbrev pub pen_at_acme : Name
pen_at_acme = under acme (rdn 3 (codes "Pen") (codes "pen"))

pub pen_is_free : judged_at desk_first (adds pen)
    ≡ Ok (acme_entry ∷ desk_entry ∷ named pen_at_acme (class 7 ∷ one 3 (text (codes "Pen") (codes "pen")) ∷ []) ∷ [])
pen_is_free = refl

pub pen_is_taken : judged_at pen_first (adds pen) ≡ Err (UpdateProblem entry_already_exists)
pen_is_taken = refl

abbrev pub desk_at_loud : Name
desk_at_loud = under loud (rdn 3 (codes "Desk") (codes "desk"))

pub desk_is_free : judged_at pen_first (adds desk)
    ≡ Ok (loud_entry ∷ named desk_at_loud (class 7 ∷ one 3 (text (codes "Desk") (codes "desk")) ∷ []) ∷ pen_entry ∷ [])
desk_is_free = refl

-- What Beta answers, step by step: it has no pen, and the lowest entry on the way is the first's; it reads the desk, by
-- the source that the first is. Refused: any answer from the second context, and its spelling.
abbrev pub scene_of : World → Request → Scene
scene_of w r = record (scene_at (point w []) 1 r) { holdings = holdings_described w }

abbrev pub IsDone : World → Request → Journal → Reply → Type 0
IsDone w r j reply = IsRequest (scene_of w r) (budget (point w [])) j reply

abbrev pub looks_at : Name → Request
looks_at name = plainly (Read name (Only []))

abbrev pub one_line : Request → Journal
one_line r = journal (asks 1 1 r Sent ∷ [])

pub no_pen : IsDone desk_first (looks_at pen) (one_line (looks_at pen)) (Failed (NoSuchObject acme))
no_pen =
    answers (Failed (NoSuchObject acme)) refl
    (nowhere acme (record { unlooped = refl; short = refl; fresh = refl; unrefused = refl; fit = refl }) refl)

pub the_desk : IsDone desk_first (looks_at desk) (one_line (looks_at desk))
    (Answered (EntryFound (bare desk) (now acme 1)))
the_desk =
    answers _ refl
    (reads _ (record { unlooped = refl; short = refl; fresh = refl; unrefused = refl; fit = refl }) refl refl refl)

pub the_pen : IsDone pen_first (looks_at pen) (one_line (looks_at pen)) (Answered (EntryFound (bare pen) (now loud 1)))
the_pen =
    answers _ refl
    (reads _ (record { unlooped = refl; short = refl; fresh = refl; unrefused = refl; fit = refl }) refl refl refl)

pub not_from_second : (j : Journal) (i : EntryInfo) (x : Source)
    → IsDone desk_first (looks_at pen) j (Answered (EntryFound i x)) → ⊥
not_from_second j i x d =
    let w = request_is_determined (scene_of desk_first (looks_at pen)) (budget (point desk_first []))
    (one_line (looks_at pen)) j (Failed (NoSuchObject acme)) (Answered (EntryFound i x)) no_pen d in
    let e : Answered (EntryFound i x) ≡ Failed (NoSuchObject acme) = w.0 in
    cc
