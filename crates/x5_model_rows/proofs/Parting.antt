-- Lists and searches by parts, step by step, as terms of the relation whose premises all compute: how each part is
-- answered and joined to the rest; with exclusions that are sent, and with one agent asked by two references. And what
-- a copy answers, with its moment, and what it sends to its supplier. The journals and answers are those that Searching
-- and Shadowing show to be right. Since a request has one outcome, others are refused.
use Rattle.std.specs.Prelude.{ℕ, Bool, true, false, ◌&&◌, ◌==◌, List, [], ◌∷◌, ◌≡◌}
use Rattle.std.specs.List.{filter, list_any}
use Rattle.std.proofs.Common.{length, refl, ap, Option, Some, None, arith}
use lib.Chars.{codes}
use Rattle.x5_model.specs.Words.{is_empty}
use Rattle.x5_model.specs.Values.{Name, Known, TextValue}
use Rattle.x5_model.specs.References.{Next, Done, Subordinate, NonSpecific, Supplier, Reference}
use Rattle.x5_model.specs.Answers.{Source, Answer, Found, Listed, Changed, NoSuchObject, AttributeProblem, DirError}
use Rattle.x5_model.specs.Answers.{ServiceProblem, EntryFound, EntryInfo, Reply, Answered, Failed}
use Rattle.x5_model.specs.Problems.{invalid_attribute_syntax, unavailable}
use Rattle.x5_model_run.specs.Network.{Sent}
use Rattle.x5_model_run.specs.Journal.{Line, Journal, is_wide}
use Rattle.x5_model_run.specs.Needs.{reference}
use Rattle.x5_model_run.specs.History.{Point, Nothing}
use Rattle.x5_model_run.specs.Stage.{budget}
use Rattle.x5_model_run.specs.Chain.{scene_at, probe_request}
use Rattle.x5_model_serve.specs.Serving.{Hears, Unheard, Whole, answers, refused, stuck, goes, reads, reads_copy}
use Rattle.x5_model_serve.specs.Serving.{asks_parts, updates, does, probes_all, no_probe, clear, lost, sends, final}
use Rattle.x5_model_serve.specs.Serving.{none_yet, in_vain_too, heard, unheard, no_part, part_unheard, part_answered}
use Rattle.x5_model_determined.proofs.Once.{request_is_determined}
use Rattle.x5_model_rows.proofs.BaseWorld.{base_world, nl, acme, desk, lab, jan, shop, shop_rdn}
use Rattle.x5_model_rows.proofs.Messages.{asks, passes, journal, did, point, now, info, bare, copied, shows}
use Rattle.x5_model_rows.proofs.Messages.{whole_outcome, left_out}
use Rattle.x5_model_rows.proofs.Messages as messages
use Rattle.x5_model_rows.proofs.Resolution.{at_first, compare_country}
use Rattle.x5_model_rows.proofs.Searching.{the_sources, acme_reference, from_nl, shop_known_down, below_acme}
use Rattle.x5_model_rows.proofs.Searching.{less_journal, less_shop, list_acme, list_journal, sub_at, smit_below}
use Rattle.x5_model_rows.proofs.Searching.{smit_journal, beta_cut_off, twice_journal}
use Rattle.x5_model_rows.proofs.Shadowing as shadowing
use Rattle.x5_model_rows.proofs.Shadowing.{first_did, put_gears, gears_journal, third_line, fourth_line}
use Rattle.x5_model_rows.proofs.Shadowing.{read_description, description_at_epsilon, as_of_first, at_master}
use Rattle.x5_model_rows.proofs.Shadowing.{master_journal, new_name, add_new, new_at_beta, new_journal, beta_down}
use Rattle.x5_model_rows.proofs.Shadowing.{below_journal, read_new, unknown_journal, read_master, acme_journal}
use Rattle.x5_model_rows.proofs.Stepping as stepping
use Rattle.x5_model_rows.proofs.Stepping.{IsServed, unable, of_alpha, of_beta, of_gamma, of_delta, of_all, by_agent}
use Rattle.x5_model_rows.proofs.Stepping.{to_superior}

-- ---- exclusions that are sent

-- Beta has Desk just below Acme. It knows Shop by a subordinate reference too, so it asks the agents of its NSSR for
-- what is there beside Shop: Gamma isn't heard, and Delta has nothing else. Then it asks Delta for Shop.
abbrev pub less_by : ℕ → Reference
less_by a = record (by_agent a) { exclusions = shop_rdn ∷ [] }

abbrev pub to_shop : Reference
to_shop = reference shop Done Subordinate (3 ∷ [])

abbrev pub desk_of_beta : Answer
desk_of_beta = Found (bare desk ∷ []) (now acme 1 ∷ []) whole_outcome

abbrev pub nothing_more : Answer
nothing_more = Found [] [] whole_outcome

abbrev pub shop_itself : Answer
shop_itself = Found (bare shop ∷ []) (now shop 3 ∷ []) whole_outcome

abbrev pub less_answer : Answer
less_answer =
    Found (bare desk ∷ bare shop ∷ []) (now acme 1 ∷ now shop 3 ∷ [])
    (left_out (record less_shop { tried = true } ∷ []))

pub less_served : IsServed shop_known_down 1 below_acme less_journal (Answered less_answer)
less_served =
    answers (Answered less_answer) refl
    (asks_parts desk_of_beta (Whole less_answer)
    (record { unlooped = refl; short = refl; fresh = refl; unrefused = refl; fit = refl }) refl refl refl
    (part_answered to_shop shop_itself
    (part_answered (less_by 3) nothing_more
    (part_unheard (less_by 2) no_part (unheard (in_vain_too 2 none_yet (lost 2 refl refl refl))))
    (heard [] [] 3 (Answered nothing_more) refl none_yet
    (sends 3 (Answered nothing_more) (Answered nothing_more) refl refl refl
    (asks_parts nothing_more (Whole nothing_more)
    (record { unlooped = refl; short = refl; fresh = refl; unrefused = refl; fit = refl }) refl refl refl no_part)
    (final (Answered nothing_more) refl))))
    (heard [] [] 3 (Answered shop_itself) refl none_yet
    (sends 3 (Answered shop_itself) (Answered shop_itself) refl refl refl
    (asks_parts shop_itself (Whole shop_itself)
    (record { unlooped = refl; short = refl; fresh = refl; unrefused = refl; fit = refl }) refl refl refl no_part)
    (final (Answered shop_itself) refl)))))

-- No agent of the NSSR is asked without them, as Delta's Shop would come twice then.
abbrev pub excludes_nothing : Line → Bool
excludes_nothing l = is_wide l.message.kind && is_empty l.message.exclusions

pub not_without_exclusions : (j : Journal) (reply : Reply) → list_any excludes_nothing j.lines ≡ true
    → IsServed shop_known_down 1 below_acme j reply → ⊥
not_without_exclusions j reply e d =
    let w = request_is_determined (scene_at shop_known_down 1 below_acme) (budget shop_known_down) less_journal j
    (Answered less_answer) reply less_served d in
    let f : list_any excludes_nothing j.lines ≡ false = ap (λ (i : Journal). list_any excludes_nothing i.lines) w.1 in
    cc

-- ---- one agent, two references

-- Gamma consumes Acme, with a copy that it hasn't refreshed. Alpha doesn't hear Beta and asks Gamma, which asks its
-- supplier Beta. Beta asks Gamma again, by its NSSR: that is no loop, and Gamma answers what is below Acme.
abbrev pub to_acme : Reference
to_acme = reference acme Done Subordinate (1 ∷ 2 ∷ [])

abbrev pub acme_supplier : Reference
acme_supplier = reference acme Done Supplier (1 ∷ [])

pub twice_served : IsServed beta_cut_off 0 from_nl twice_journal (Answered of_all)
twice_served =
    answers (Answered of_all) refl
    (asks_parts of_alpha (Whole of_all)
    (record { unlooped = refl; short = refl; fresh = refl; unrefused = refl; fit = refl }) refl refl refl
    (part_answered to_acme stepping.below_acme no_part
    (heard (1 ∷ []) [] 2 (Answered stepping.below_acme) refl (in_vain_too 1 none_yet (lost 1 refl refl refl))
    (sends 2 (Answered stepping.below_acme) (Answered stepping.below_acme) refl refl refl
    (goes acme_supplier (Hears (Answered stepping.below_acme))
    (record { unlooped = refl; short = refl; fresh = refl; unrefused = refl; fit = refl }) refl refl refl
    (heard [] [] 1 (Answered stepping.below_acme) refl none_yet
    (sends 1 (Answered stepping.below_acme) (Answered stepping.below_acme) refl refl refl
    (asks_parts of_beta (Whole stepping.below_acme)
    (record { unlooped = refl; short = refl; fresh = refl; unrefused = refl; fit = refl }) refl refl refl
    (part_answered (by_agent 3) of_delta
    (part_answered (by_agent 2) of_gamma no_part
    (heard [] [] 2 (Answered of_gamma) refl none_yet
    (sends 2 (Answered of_gamma) (Answered of_gamma) refl refl refl
    (asks_parts of_gamma (Whole of_gamma)
    (record { unlooped = refl; short = refl; fresh = refl; unrefused = refl; fit = refl }) refl refl refl no_part)
    (final (Answered of_gamma) refl))))
    (heard [] [] 3 (Answered of_delta) refl none_yet
    (sends 3 (Answered of_delta) (Answered of_delta) refl refl refl
    (asks_parts of_delta (Whole of_delta)
    (record { unlooped = refl; short = refl; fresh = refl; unrefused = refl; fit = refl }) refl refl refl no_part)
    (final (Answered of_delta) refl)))))
    (final (Answered stepping.below_acme) refl))))
    (final (Answered stepping.below_acme) refl)))))

-- so no error is given, as of a loop,
pub twice_is_no_loop : (j : Journal) (x : DirError) → IsServed beta_cut_off 0 from_nl j (Failed x) → ⊥
twice_is_no_loop j x d =
    let w = request_is_determined (scene_at beta_cut_off 0 from_nl) (budget beta_cut_off) twice_journal j
    (Answered of_all) (Failed x) twice_served d in
    let e : Failed x ≡ Answered of_all = w.0 in
    cc

-- and Gamma isn't asked only once
abbrev pub asked_of : ℕ → Journal → ℕ
asked_of a j = length (filter (λ l. l.receiver == a) j.lines)

pub not_once : (j : Journal) (reply : Reply) → asked_of 2 j ≡ 1 → IsServed beta_cut_off 0 from_nl j reply → ⊥
not_once j reply e d =
    let w = request_is_determined (scene_at beta_cut_off 0 from_nl) (budget beta_cut_off) twice_journal j
    (Answered of_all) reply twice_served d in
    let f : asked_of 2 j ≡ 2 = ap (asked_of 2) w.1 in
    omega (arith, e, f)

-- ---- a list and a search

-- what is just below Acme: Beta's own names, then Gamma's and Delta's
abbrev pub names_of : ℕ → Name → Name → Answer
names_of a context name = Listed (sub_at name ∷ []) (now context a ∷ []) whole_outcome

abbrev pub all_names : Answer
all_names =
    Listed (sub_at desk ∷ sub_at lab ∷ sub_at shop ∷ []) (now acme 1 ∷ now lab 2 ∷ now shop 3 ∷ []) whole_outcome

pub list_served : IsServed at_first 1 list_acme list_journal (Answered all_names)
list_served =
    answers (Answered all_names) refl
    (asks_parts (names_of 1 acme desk) (Whole all_names)
    (record { unlooped = refl; short = refl; fresh = refl; unrefused = refl; fit = refl }) refl refl refl
    (part_answered (by_agent 3) (names_of 3 shop shop)
    (part_answered (by_agent 2) (names_of 2 lab lab) no_part
    (heard [] [] 2 (Answered (names_of 2 lab lab)) refl none_yet
    (sends 2 (Answered (names_of 2 lab lab)) (Answered (names_of 2 lab lab)) refl refl refl
    (asks_parts (names_of 2 lab lab) (Whole (names_of 2 lab lab))
    (record { unlooped = refl; short = refl; fresh = refl; unrefused = refl; fit = refl }) refl refl refl no_part)
    (final (Answered (names_of 2 lab lab)) refl))))
    (heard [] [] 3 (Answered (names_of 3 shop shop)) refl none_yet
    (sends 3 (Answered (names_of 3 shop shop)) (Answered (names_of 3 shop shop)) refl refl refl
    (asks_parts (names_of 3 shop shop) (Whole (names_of 3 shop shop))
    (record { unlooped = refl; short = refl; fresh = refl; unrefused = refl; fit = refl }) refl refl refl no_part)
    (final (Answered (names_of 3 shop shop)) refl)))))

-- then a comparison that is refused at once
abbrev pub after_list : Point
after_list = point base_world (did Nothing 3 ∷ [])

abbrev pub country_refused : Reply
country_refused = Failed (AttributeProblem invalid_attribute_syntax (Known 6))

pub country_served : IsServed after_list 0 compare_country (journal (asks 4 0 compare_country Sent ∷ []))
    country_refused
country_served =
    answers country_refused refl
    (refused (AttributeProblem invalid_attribute_syntax (Known 6)) refl refl refl refl)

-- Who is called Smit, asked of Epsilon, whose copy isn't refreshed: up to Alpha, and by parts. Each context that is
-- looked into is a source, also where nobody is found there.
abbrev pub found_nobody : ℕ → Name → Answer
found_nobody a context = Found [] (now context a ∷ []) whole_outcome

abbrev pub found_jan : List Source → Answer
found_jan sources =
    Found (info jan (shows 3 (TextValue (codes "Jan") ∷ []) ∷ shows 4 (TextValue (codes "Smit") ∷ []) ∷ []) ∷ [])
    sources whole_outcome

abbrev pub jan_of_gamma : Answer
jan_of_gamma = found_jan (now lab 2 ∷ [])

abbrev pub jan_of_beta : Answer
jan_of_beta = found_jan (now acme 1 ∷ now lab 2 ∷ now shop 3 ∷ [])

abbrev pub jan_of_all : Answer
jan_of_all = found_jan the_sources

pub smit_served : IsServed at_first 4 (smit_below []) smit_journal (Answered jan_of_all)
smit_served =
    answers (Answered jan_of_all) refl
    (goes (to_superior 0) (Hears (Answered jan_of_all))
    (record { unlooped = refl; short = refl; fresh = refl; unrefused = refl; fit = refl }) refl refl refl
    (heard [] [] 0 (Answered jan_of_all) refl none_yet
    (sends 0 (Answered jan_of_all) (Answered jan_of_all) refl refl refl
    (asks_parts (found_nobody 0 nl) (Whole jan_of_all)
    (record { unlooped = refl; short = refl; fresh = refl; unrefused = refl; fit = refl }) refl refl refl
    (part_answered acme_reference jan_of_beta no_part
    (heard [] (4 ∷ []) 1 (Answered jan_of_beta) refl none_yet
    (sends 1 (Answered jan_of_beta) (Answered jan_of_beta) refl refl refl
    (asks_parts (found_nobody 1 acme) (Whole jan_of_beta)
    (record { unlooped = refl; short = refl; fresh = refl; unrefused = refl; fit = refl }) refl refl refl
    (part_answered (by_agent 3) (found_nobody 3 shop)
    (part_answered (by_agent 2) jan_of_gamma no_part
    (heard [] [] 2 (Answered jan_of_gamma) refl none_yet
    (sends 2 (Answered jan_of_gamma) (Answered jan_of_gamma) refl refl refl
    (asks_parts jan_of_gamma (Whole jan_of_gamma)
    (record { unlooped = refl; short = refl; fresh = refl; unrefused = refl; fit = refl }) refl refl refl no_part)
    (final (Answered jan_of_gamma) refl))))
    (heard [] [] 3 (Answered (found_nobody 3 shop)) refl none_yet
    (sends 3 (Answered (found_nobody 3 shop)) (Answered (found_nobody 3 shop)) refl refl refl
    (asks_parts (found_nobody 3 shop) (Whole (found_nobody 3 shop))
    (record { unlooped = refl; short = refl; fresh = refl; unrefused = refl; fit = refl }) refl refl refl no_part)
    (final (Answered (found_nobody 3 shop)) refl)))))
    (final (Answered jan_of_beta) refl)))))
    (final (Answered jan_of_all) refl))))

-- and Epsilon, which answers nothing by its copy, is no source
abbrev pub sources_of : Reply → List Source
sources_of (Answered (Found infos sources o)) = sources
sources_of other = []

pub not_by_epsilon : (j : Journal) (reply : Reply) → list_any (λ s. s.agent == 4) (sources_of reply) ≡ true
    → IsServed at_first 4 (smit_below []) j reply → ⊥
not_by_epsilon j reply e d =
    let w = request_is_determined (scene_at at_first 4 (smit_below [])) (budget at_first) smit_journal j
    (Answered jan_of_all) reply smit_served d in
    let f : list_any (λ s. s.agent == 4) (sources_of reply) ≡ false =
    ap (λ (y : Reply). list_any (λ s. s.agent == 4) (sources_of y)) w.0 in
    cc

-- ---- a copy that answers

-- Epsilon has a copy of Acme as of line 1: it answers a read with that moment,
abbrev pub old_reply : Reply
old_reply = Answered (EntryFound (copied (info acme (shows 13 (TextValue (codes "tools") ∷ []) ∷ []))) as_of_first)

pub copy_served : IsServed third_line 4 read_description (journal (description_at_epsilon ∷ [])) old_reply
copy_served =
    answers old_reply refl
    (reads_copy _ (record { unlooped = refl; short = refl; fresh = refl; unrefused = refl; fit = refl }) refl refl)

-- and not as of now, as a master does
abbrev pub moment_of : Reply → Option ℕ
moment_of (Answered (EntryFound i s)) = s.moment
moment_of other = None

pub not_as_of_now : (j : Journal) (i : EntryInfo) (s : Source) → s.moment ≡ None
    → IsServed third_line 4 read_description j (Answered (EntryFound i s)) → ⊥
not_as_of_now j i s f d =
    let w = request_is_determined (scene_at third_line 4 read_description) (budget third_line) (journal
    (description_at_epsilon ∷ [])) j
    old_reply (Answered (EntryFound i s)) copy_served d in
    let e : s.moment ≡ Some 1 = ap moment_of w.0 in
    cc

-- The master takes a change that its copies lack.
pub gears_taken : IsServed (point base_world (first_did ∷ [])) 1 put_gears gears_journal (Answered Changed)
gears_taken =
    answers (Answered Changed) refl
    (updates _ _ (record { unlooped = refl; short = refl; fresh = refl; unrefused = refl; fit = refl }) refl refl
    (does _ refl refl))

-- Where copies may not be used it asks the master, its supplier.
abbrev pub to_supplier : Name → Reference
to_supplier name = reference name (Next 2) Supplier (1 ∷ [])

abbrev pub new_reply : Reply
new_reply =
    Answered (EntryFound (info acme (shows 13 (TextValue (codes "gears") ∷ TextValue (codes "tools") ∷ []) ∷ []))
    (now acme 1))

pub master_served : IsServed fourth_line 4 at_master master_journal new_reply
master_served =
    answers new_reply refl
    (goes (to_supplier acme) (Hears new_reply)
    (record { unlooped = refl; short = refl; fresh = refl; unrefused = refl; fit = refl }) refl refl refl
    (heard [] [] 1 new_reply refl none_yet
    (sends 1 new_reply new_reply refl refl refl
    (reads _ (record { unlooped = refl; short = refl; fresh = refl; unrefused = refl; fit = refl }) refl refl refl)
    (final new_reply refl))))

-- Beta adds an entry once neither agent of its NSSR has it.
abbrev pub new_probe : Reference
new_probe = reference new_name (Next 3) NonSpecific (2 ∷ 3 ∷ [])

abbrev pub probed : ℕ → ℕ → Reply
probed number a =
    unable (passes number new_at_beta a new_name (Next 3) NonSpecific (probe_request new_name) Sent)

pub new_served : IsServed (point base_world (first_did ∷ [])) 1 add_new new_journal (Answered Changed)
new_served =
    answers (Answered Changed) refl
    (updates _ _ (record { unlooped = refl; short = refl; fresh = refl; unrefused = refl; fit = refl }) refl refl
    (probes_all _ new_probe refl refl
    (clear 3 (probed 5 3) refl
    (clear 2 (probed 4 2) refl no_probe
    (sends 2 (probed 4 2) (probed 4 2) refl refl refl
    (stuck (record { unlooped = refl; short = refl; fresh = refl; unrefused = refl; fit = refl }) refl)
    (final _ refl)))
    (sends 3 (probed 5 3) (probed 5 3) refl refl refl
    (stuck (record { unlooped = refl; short = refl; fresh = refl; unrefused = refl; fit = refl }) refl)
    (final _ refl)))))

-- Then Beta is down, and Alpha asks Epsilon. For a search of what is just below Acme that answers by its copy, and asks
-- the agents of the NSSR that the copy has.
abbrev pub after_new : Point
after_new = point base_world beta_down

abbrev pub to_either : Name → Reference
to_either name = reference name (Next 2) Subordinate (1 ∷ 4 ∷ [])

abbrev pub desk_of_copy : Answer
desk_of_copy = Found (copied (bare desk) ∷ []) (as_of_first ∷ []) whole_outcome

abbrev pub lab_itself : Answer
lab_itself = Found (bare lab ∷ []) (now lab 2 ∷ []) whole_outcome

abbrev pub found_by_copy : Answer
found_by_copy =
    Found (copied (bare desk) ∷ bare lab ∷ bare shop ∷ []) (as_of_first ∷ now lab 2 ∷ now shop 3 ∷ []) whole_outcome

pub below_served : IsServed after_new 0 shadowing.below_acme below_journal (Answered found_by_copy)
below_served =
    answers (Answered found_by_copy) refl
    (goes (to_either acme) (Hears (Answered found_by_copy))
    (record { unlooped = refl; short = refl; fresh = refl; unrefused = refl; fit = refl }) refl refl refl
    (heard (1 ∷ []) [] 4 (Answered found_by_copy) refl (in_vain_too 1 none_yet (lost 1 refl refl refl))
    (sends 4 (Answered found_by_copy) (Answered found_by_copy) refl refl refl
    (asks_parts desk_of_copy (Whole found_by_copy)
    (record { unlooped = refl; short = refl; fresh = refl; unrefused = refl; fit = refl }) refl refl refl
    (part_answered (by_agent 3) shop_itself
    (part_answered (by_agent 2) lab_itself no_part
    (heard [] [] 2 (Answered lab_itself) refl none_yet
    (sends 2 (Answered lab_itself) (Answered lab_itself) refl refl refl
    (asks_parts lab_itself (Whole lab_itself)
    (record { unlooped = refl; short = refl; fresh = refl; unrefused = refl; fit = refl }) refl refl refl no_part)
    (final (Answered lab_itself) refl))))
    (heard [] [] 3 (Answered shop_itself) refl none_yet
    (sends 3 (Answered shop_itself) (Answered shop_itself) refl refl refl
    (asks_parts shop_itself (Whole shop_itself)
    (record { unlooped = refl; short = refl; fresh = refl; unrefused = refl; fit = refl }) refl refl refl no_part)
    (final (Answered shop_itself) refl)))))
    (final (Answered found_by_copy) refl))))

-- Its copy lacks the new entry, which is no error: Epsilon asks its supplier, and doesn't hear it.
abbrev pub unknown_reply : Reply
unknown_reply = Failed (ServiceProblem unavailable (Some (messages.in_vain Supplier new_name (Next 2) (1 ∷ []))) None)

abbrev pub after_search : Point
after_search = point base_world (did Nothing 5 ∷ beta_down)

pub unknown_served : IsServed after_search 0 read_new unknown_journal unknown_reply
unknown_served =
    answers unknown_reply refl
    (goes (to_either new_name) (Hears unknown_reply)
    (record { unlooped = refl; short = refl; fresh = refl; unrefused = refl; fit = refl }) refl refl refl
    (heard (1 ∷ []) [] 4 unknown_reply refl (in_vain_too 1 none_yet (lost 1 refl refl refl))
    (sends 4 unknown_reply unknown_reply refl refl refl
    (goes (to_supplier new_name) Unheard
    (record { unlooped = refl; short = refl; fresh = refl; unrefused = refl; fit = refl }) refl refl refl
    (unheard (in_vain_too 1 none_yet (lost 1 refl refl refl))))
    (final unknown_reply refl))))

pub not_unknown : (j : Journal) (name : Name) → IsServed after_search 0 read_new j (Failed (NoSuchObject name)) → ⊥
not_unknown j name d =
    let w = request_is_determined (scene_at after_search 0 read_new) (budget after_search) unknown_journal j
    unknown_reply (Failed (NoSuchObject name)) unknown_served d in
    let e : Failed (NoSuchObject name) ≡ unknown_reply = w.0 in
    cc

-- Where copies may not be used Epsilon isn't asked.
abbrev pub only_master : Reference
only_master = reference acme (Next 2) Subordinate (1 ∷ [])

abbrev pub unmastered : Reply
unmastered = Failed (ServiceProblem unavailable (Some (messages.in_vain Subordinate acme (Next 2) (1 ∷ []))) None)

abbrev pub after_read : Point
after_read = point base_world (did Nothing 4 ∷ did Nothing 5 ∷ beta_down)

pub master_unserved : IsServed after_read 0 read_master acme_journal unmastered
master_unserved =
    answers unmastered refl
    (goes only_master Unheard
    (record { unlooped = refl; short = refl; fresh = refl; unrefused = refl; fit = refl }) refl refl refl
    (unheard (in_vain_too 1 none_yet (lost 1 refl refl refl))))
