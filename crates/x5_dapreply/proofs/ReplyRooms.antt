-- There is room under what is written of any reply, since each of its parts takes few levels; so an answer to a user
-- that is a value of its type is spelled by what is written of it.
use Rattle.std.proofs.Common.{◌≡◌, ℕ, ◌+◌, ◌<◌, ◌≤◌, ◌^◌, true, false, Bool, List, [], ◌∷◌, map, length, arith}
use Rattle.std.specs.declared.option.Option.{Option}
use Rattle.std.specs.declared.option.Option.TheVariants.{None, Some}
use Rattle.x5_model.specs.References.{Progress, Start, Next, Done}
use Rattle.x5_model.specs.Answers.{Shown, EntryInfo, Sub}
use Rattle.x5_model_messages.specs.Terms.{node_of, type_node, rdn_node, name_node, value_node}
use Rattle.x5_model_messages.specs.Replies.{Access, Reference, TraceItem, Source, Outcome, Answer, Entry, Match, Listed}
use Rattle.x5_model_messages.specs.Replies.{Found, Changed, Reply, Answered, NoSuchObject, AttributeProblem}
use Rattle.x5_model_messages.specs.Replies.{UpdateProblem, ServiceProblem, Referred, progress_node, access_node}
use Rattle.x5_model_messages.specs.Replies.{reference_node, item_node, number_or_vacant, source_node, shown_node}
use Rattle.x5_model_messages.specs.Replies.{info_node, sub_node, limit_node, outcome_node, answer_node}
use Rattle.x5_model_messages.specs.Replies.{reference_or_vacant, item_or_vacant, error_node, reply_node, to_user}
use Rattle.x5_model_octets.specs.Elements.{deepest}
use Rattle.x5_model_typed.specs.Named as named
use Rattle.x5_model_typed.specs.Nodes.{Node, whole}
use Rattle.x5_model_typed.specs.Typed.{Spells}
use Rattle.x5_model_typed.specs.Written.{canonical_octets}
use Rattle.x5_model_typed_laws.specs.Fits.{Fits}
use Rattle.x5_model_typed_laws.proofs.Back.{written_is_spelled}
use Rattle.x5_types.specs.FormView.{nowhere, table}
use Rattle.x5_dapber.proofs.Clock.{a_table}
use Rattle.x5_dapber.proofs.RequestRooms.{Takes, many_take, type_takes, rdn_takes, name_takes, value_takes}
use Rattle.x5_dapber.proofs.Rooms.{Room, has_spelling}
use Rattle.x5_dapber.proofs.Tags.{good_tags}

pub progress_takes : (p : Progress) → Takes 2 (progress_node p)
progress_takes Start d le = (omega (arith, le), (omega (arith, le), (omega (arith, le), tt)))
progress_takes (Next k) d le = (omega (arith, le), (omega (arith, le), (omega (arith, le), tt)))
progress_takes Done d le = (omega (arith, le), (omega (arith, le), (omega (arith, le), tt)))

pub item_takes : (i : TraceItem) → Takes 8 (item_node i)
item_takes i d le = (
  omega (arith, le),
  (
    omega (arith, le),
    (
      name_takes i.target (d + 2) (omega (arith, le)),
      (progress_takes i.progress (d + 2) (omega (arith, le)), (omega (arith, le), tt)),
    ),
  ),
)

access_takes : (a : Access) → Takes 2 (access_node a)
access_takes a d le = (omega (arith, le), (omega (arith, le), (omega (arith, le), tt)))

reference_takes : (r : Reference) → Takes 8 (reference_node r)
reference_takes r d le = (
  omega (arith, le),
  (
    name_takes r.target (d + 2) (omega (arith, le)),
    (
      progress_takes r.progress (d + 2) (omega (arith, le)),
      (
        omega (arith, le),
        (
          many_take access_node 2 access_takes r.agents (d + 2) (omega (arith, le)),
          (many_take rdn_node 4 rdn_takes r.exclusions (d + 2) (omega (arith, le)), (omega (arith, le), tt)),
        ),
      ),
    ),
  ),
)

number_takes : (o : Option ℕ) → Takes 0 (number_or_vacant o)
number_takes None d le = omega (arith, le)
number_takes (Some n) d le = omega (arith, le)

source_takes : (s : Source) → Takes 8 (source_node s)
source_takes s d le = (
  omega (arith, le),
  (
    name_takes s.context (d + 2) (omega (arith, le)),
    (omega (arith, le), (number_takes s.moment (d + 2) (omega (arith, le)), tt)),
  ),
)

shown_takes : (a : Shown) → Takes 10 (shown_node a)
shown_takes a d le = (
  omega (arith, le),
  (
    type_takes a.kind (d + 2) (omega (arith, le)),
    (many_take value_node 6 value_takes a.values (d + 2) (omega (arith, le)), tt),
  ),
)

info_takes : (e : EntryInfo) → Takes 14 (info_node e)
info_takes e d le = (
  omega (arith, le),
  (
    name_takes e.name (d + 2) (omega (arith, le)),
    (omega (arith, le), (many_take shown_node 10 shown_takes e.attributes (d + 2) (omega (arith, le)), tt)),
  ),
)

sub_takes : (s : Sub) → Takes 6 (sub_node s)
sub_takes s d le = (omega (arith, le), (rdn_takes s.rdn (d + 2) (omega (arith, le)), (omega (arith, le), tt)))

limit_takes : (b : Bool) → Takes 0 (limit_node b)
limit_takes true d le = omega (arith, le)
limit_takes false d le = omega (arith, le)

outcome_takes : (o : Outcome) → Takes 12 (outcome_node o)
outcome_takes o d le = (
  omega (arith, le),
  (
    limit_takes o.limited (d + 2) (omega (arith, le)),
    (many_take reference_node 8 reference_takes o.unexplored (d + 2) (omega (arith, le)), tt),
  ),
)

answer_takes : (a : Answer) → Takes 18 (answer_node a)
answer_takes (Entry entry source) d le = (
  omega (arith, le),
  (info_takes entry (d + 2) (omega (arith, le)), (source_takes source (d + 2) (omega (arith, le)), tt)),
)
answer_takes (Match matched copy source) d le = (
  omega (arith, le),
  (omega (arith, le), (omega (arith, le), (source_takes source (d + 2) (omega (arith, le)), tt))),
)
answer_takes (Listed subs sources outcome) d le = (
  omega (arith, le),
  (
    many_take sub_node 6 sub_takes subs (d + 2) (omega (arith, le)),
    (
      many_take source_node 8 source_takes sources (d + 2) (omega (arith, le)),
      (outcome_takes outcome (d + 2) (omega (arith, le)), tt),
    ),
  ),
)
answer_takes (Found entries sources outcome) d le = (
  omega (arith, le),
  (
    many_take info_node 14 info_takes entries (d + 2) (omega (arith, le)),
    (
      many_take source_node 8 source_takes sources (d + 2) (omega (arith, le)),
      (outcome_takes outcome (d + 2) (omega (arith, le)), tt),
    ),
  ),
)
answer_takes Changed d le = omega (arith, le)

reference_or_vacant_takes : (o : Option Reference) → Takes 8 (reference_or_vacant o)
reference_or_vacant_takes None d le = omega (arith, le)
reference_or_vacant_takes (Some r) d le = reference_takes r d le

item_or_vacant_takes : (o : Option TraceItem) → Takes 8 (item_or_vacant o)
item_or_vacant_takes None d le = omega (arith, le)
item_or_vacant_takes (Some i) d le = item_takes i d le

error_room : (id code : ℕ) (n : Node) → Takes 10 n → Room 1 (error_node id code n)
error_room id code n takes =
    let fits : 1 + 1 + 2 + 10 ≤ deepest = omega arith in
    (omega arith, (omega arith, (omega arith, (omega arith, (takes (1 + 1 + 2) fits, tt)))))

pub reply_room : (referral id : ℕ) (r : Reply) → Room 1 (reply_node referral id r)
reply_room referral id (Answered code answer) =
    let fits : 1 + 1 + 2 + 2 + 18 ≤ deepest = omega arith in
    let result = answer_takes answer (1 + 1 + 2 + 2) fits in
    (omega arith, (omega arith, (omega arith, ((omega arith, (omega arith, (result, tt))), tt))))
reply_room referral id (AttributeProblem problem type) =
    let takes : Takes 10 (node_of (whole problem ∷ type_node type ∷ [])) = λ d le.
    (omega (arith, le), (omega (arith, le), (type_takes type (d + 2) (omega (arith, le)), tt))) in
    error_room id 1 (node_of (whole problem ∷ type_node type ∷ [])) takes
reply_room referral id (NoSuchObject matched) =
    let takes : Takes 10 (node_of (whole 1 ∷ name_node matched ∷ [])) = λ d le.
    (omega (arith, le), (omega (arith, le), (name_takes matched (d + 2) (omega (arith, le)), tt))) in
    error_room id 2 (node_of (whole 1 ∷ name_node matched ∷ [])) takes
reply_room referral id (ServiceProblem problem reference item) =
    let takes : Takes 10 (node_of (whole problem ∷ reference_or_vacant reference ∷ item_or_vacant item ∷ [])) = λ d le. (
      omega (arith, le),
      (
        omega (arith, le),
        (
          reference_or_vacant_takes reference (d + 2) (omega (arith, le)),
          (item_or_vacant_takes item (d + 2) (omega (arith, le)), tt),
        ),
      ),
    ) in
    error_room id 3 (node_of (whole problem ∷ reference_or_vacant reference ∷ item_or_vacant item ∷ [])) takes
reply_room referral id (UpdateProblem problem) =
    let takes : Takes 10 (node_of (whole problem ∷ [])) = λ d le. (omega (arith, le), (omega (arith, le), tt)) in
    error_room id 8 (node_of (whole problem ∷ [])) takes
reply_room referral id (Referred reference) =
    let takes : Takes 10 (reference_node reference) = λ d le. reference_takes reference d (omega (arith, le)) in
    error_room id referral (reference_node reference) takes

pub answer_spelled : (id : ℕ) (r : Reply) (octets : List ℕ)
    → Fits table (table named.DapAnswer) (reply_node to_user id r)
    → canonical_octets table named.DapAnswer (reply_node to_user id r) ≡ Some octets → length octets < 2 ^ 64
    → Spells table named.DapAnswer octets (reply_node to_user id r)
answer_spelled id r octets fit written short =
    written_is_spelled table named.DapAnswer (reply_node to_user id r) octets a_table fit
    (has_spelling table (good_tags nowhere) named.DapAnswer (reply_node to_user id r) octets (reply_room to_user id r)
    written short)
    written
