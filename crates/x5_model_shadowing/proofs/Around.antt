-- In a world that a file describes agents have names that messages have room for, each once; and as many moments have a
-- date and time as four octets count.
use Rattle.std.proofs.Common.{◌≡◌, ◌<◌, ℕ, nat_lt, nat_le, Bool, true, false, not, List, [], ◌∷◌, length, refl, sym, ap, subst, ◌∙◌, codes, Some}
use Rattle.std.proofs.lemmas.Bool.{lt-ltb}
use Rattle.std.specs.List.{list_all}
use Rattle.std.specs.Cmp.Lexicographic.{bytes_decides}
use Rattle.x5_model.specs.Members.{In}
use Rattle.x5_model.specs.Values.{Text}
use Rattle.x5_model.specs.Words.{same_octets}
use Rattle.x5_model.proofs.Lists.{both_true, and_true, any_in, all_in, of_all, of_map}
use Rattle.x5_model_tree.specs.World.{Agent, World, names_of_agents}
use Rattle.x5_model_tree.specs.Described as described
use Rattle.x5_model_tree.specs.Described.{IsDescribed, is_agent}
use Rattle.x5_know.specs.Moments.{Start, moment_count, moment_text}
use Rattle.x5_know.specs.Names.{has_name}
use Rattle.x5_know.proofs.Stamps.{count_is}
use Rattle.x5_model_typed.specs.Leaves as leaves
use Rattle.x5_model_typed.specs.Leaves.{where_so}
use Rattle.x5_model_fitting.specs.Requests.{CountWithin}
use Rattle.x5_model_shadowed.specs.Within.{MomentWithin}
use Rattle.x5_model_shadowing.specs.Messages.{around, WorldIsAround}

-- ---- agents

begins_same : (t : Text) → described.begins_with_letter t ≡ leaves.begins_with_letter t
begins_same [] = refl
begins_same (b ∷ bs) = refl

agent_named : (t : Text) → described.is_agent_name t ≡ true → leaves.is_agent_name t ≡ true
agent_named t h =
    let short = both_true (nat_le (length t) 32) _ h in
    let first = both_true (described.begins_with_letter t) _ short.1 in
    let rest = both_true (list_all described.is_name_octet t) _ first.1 in
    and_true _ (not (same_octets t (codes "user")))
    (and_true _ (nat_le (length t) 32)
    (and_true (leaves.begins_with_letter t) (list_all leaves.may_stand_in_agent t) (sym (begins_same t) ∙ first.0)
    rest.0)
    short.0)
    rest.1

name_is : (w : World) → IsDescribed w → (t : Text) → In t (names_of_agents w) → leaves.is_agent_name t ≡ true
name_is w d t i =
    let x = of_map (λ (a : Agent). a.name) t w.agents i in
    let p = both_true (described.is_agent_name x.0.name) _ (of_all (is_agent w) x.0 w.agents d.agents x.1) in
    subst (λ (n : Text). leaves.is_agent_name n ≡ true) (sym x.2) (agent_named x.0.name p.0)

named_so : (names : List Text) (t : Text) → In t names → has_name names t ≡ true
named_so names t i = any_in (same_octets t) t names i ((bytes_decides t t).1 refl)

-- ---- moments

time_is : (b : Bool) (t : Text) → b ≡ true → where_so b t ≡ Some t
time_is true t e = refl
time_is false t e = absurd (cc e)

moment_is : (start : Start) (names : List Text) (m : ℕ) → CountWithin m → MomentWithin (around start names) m
moment_is start names m few =
    let c : m < 4_294_967_296 = few in
    record {
      octets = moment_text start m;
      has_time = time_is (nat_lt m moment_count) (moment_text start m)
          (ap (nat_lt m) count_is ∙ lt-ltb m 4_294_967_296 c);
    }

pub world_is_around : WorldIsAround
world_is_around start w d = record {
  agents = record {
    named = all_in leaves.is_agent_name (names_of_agents w) (name_is w d);
    of_world = named_so (names_of_agents w);
    once = d.names_apart;
  };
  times = moment_is start (names_of_agents w);
}
