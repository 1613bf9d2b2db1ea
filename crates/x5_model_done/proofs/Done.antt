-- What agents hold in a setting is in order, so at every line of a run a message is carried through; and it has one
-- outcome, since what is done is determined.
use Rattle.std.proofs.Common.{◌≡◌, ℕ, Bool, true, false, List, [], refl, sym, subst}
use Rattle.x5_model.specs.Members.{In}
use Rattle.x5_model.specs.Values.{key_of}
use Rattle.x5_model.specs.Requests.{Request}
use Rattle.x5_model_tree.specs.Tree.{is_there}
use Rattle.x5_model.specs.References.{Chained}
use Rattle.x5_model_theory.specs.Leading.{IsSound}
use Rattle.x5_model_theory.proofs.Views.{there_decides}
use Rattle.x5_model_theory.proofs.Holding.{by_agent}
use Rattle.x5_model_run.specs.Holdings.{Held, Holdings, may_copy, served}
use Rattle.x5_model_run.specs.History.{no_holdings}
use Rattle.x5_model_run.specs.Chain.{opening, scene_with}
use Rattle.x5_model_parts.proofs.Copying.{all_serving}
use Rattle.x5_model_find.proofs.Orderly.{holdings_orderly}
use Rattle.x5_model_determined.proofs.Once.{request_is_determined}
use Rattle.x5_model_done.specs.Done.{IsKept, SettingsAreKept, MessagesAreServed, RequestsAreDone, RequestsHaveOutcomes, LinesHaveOutcomes}
use Rattle.x5_model_done.proofs.Doing.{message_served, request_done}

none_served : (r : Request) (a : ℕ) → served r (no_holdings a) ≡ []
none_served r a = by (may_copy r) refl
  where
    by : (b : Bool) → may_copy r ≡ b → served r (no_holdings a) ≡ []
    by true q = rw q refl
    by false q = rw q refl

none_in : {X : Type 0} (c : Held) → In c [] → X
none_in c i = elim i [ ]

pub settings_are_kept : SettingsAreKept
settings_are_kept p s set a =
    subst (λ (f : ℕ → Holdings). IsKept (f a)) (sym set.holdings) (record {
      orderly = holdings_orderly p a sound;
      headed = λ r. by_agent p a (λ (h : Holdings). (c : Held) → In c (served r h) → is_there c.entries
          (key_of c.prefix) ≡ true)
          (λ c i. none_in c (subst (λ (xs : List Held). In c xs) (none_served r a) i)) (λ x ix c i.
          (there_decides c.entries (key_of c.prefix)).1 ((all_serving p set.by_keys a x ix
          (message r) set.copies).headed c i));
    })
  where
    sound : IsSound p
    sound = record { described = set.whole.described; consistent = set.whole.consistent }

    message : Request → Chained
    message r = opening r

pub messages_are_served : MessagesAreServed
messages_are_served s most k i = message_served s most k i

pub requests_are_done : RequestsAreDone
requests_are_done s most = request_done s most

pub requests_have_outcomes : RequestsHaveOutcomes
requests_have_outcomes s most =
    let w = request_done s most in
    record {
      journal = w.0;
      reply = w.1;
      done = w.2;
      only = λ j other is. request_is_determined s most w.0 j w.1 other w.2 is;
    }

pub lines_have_outcomes : LinesHaveOutcomes
lines_have_outcomes w past first most m =
    requests_have_outcomes (scene_with (record { described = w; past = past }) first m) most
