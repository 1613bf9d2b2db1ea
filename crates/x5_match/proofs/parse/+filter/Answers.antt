-- A filter is read as its definition unfolds: at its first bracket, at the sign behind that, and member by member.
use Rattle.std.proofs.Common.{[], ◌∷◌, length-append, rules, Some, ◌-◌, length, sym, ap, ◌∙◌, subst, lit<, arith}
use Rattle.std.proofs.lemmas.Str.Pattern.{strip_prefix_char, starts_char}
use lib.Utf8.{encode}
use Rattle.x5_model_text.specs.Filters as text_of
use Rattle.x5_match.specs.FilterView.{filter_view, filters_of}
use Rattle.x5_match.specs.FilterText.{ReadsFilter}
use Rattle.x5_match.proofs.CopyLemmas.{and_of_items, or_of_items}
use Rattle.x5_match.proofs.ParseLemmas.{opened, too_deep, not_opened, and_read, or_read, unsigned, member_read, members_ended}
use Rattle.x5_match.proofs.parse.+filter.Goals as goal
use Rattle.x5_match.proofs.parse.+filter.Goals.{filter_from-in_default-via-in-Some+else-nesting-gt0, filter_from-in_default-via-in_default}

pub filter_from-returns-in-Some-clause-read : goal.filter_from-returns-in-Some-clause-read
filter_from-returns-in-Some-clause-read t c =
    let there = strip_prefix_char 40 c.args.text.now (Some c.in-Some.inside) c.in-Some.ensures.cases (lit< tt) in
    subst (λ read. ReadsFilter (λ p. (filter_view p.0, p.1.now)) c.inside_from.result read)
    (opened c.args.nesting c.args.all c.args.text.now c.in-Some.inside.now (omega (arith, c.if-nesting-gt0.true)) there)
    c.inside_from.ensures.read

pub filter_from-returns-in_default-clause-read : goal.filter_from-returns-in_default-clause-read
unfolding encode
filter_from-returns-in_default-clause-read t c = elim c.in_default.branch [
  | filter_from-in_default-via-in-Some+else-nesting-gt0 w ↦ too_deep c.args.nesting c.args.all c.args.text.now (omega (arith, w.if-nesting-gt0.false))
  | filter_from-in_default-via-in_default w ↦ not_opened c.args.nesting c.args.all c.args.text.now w.in_default.ensures.cases
]

pub inside_from-returns-in-Ok-clause-read : goal.inside_from-returns-in-Ok-clause-read
inside_from-returns-in-Ok-clause-read t c =
    let there = strip_prefix_char 38 c.args.text.now (Some c.in-Some.inside) c.in-Some.ensures.cases (lit< tt) in
    let one = text_of.filter_read c.args.nesting c.args.all in
    subst (λ read. ReadsFilter (λ p. (filter_view p.0, p.1.now)) c.closed.result read)
    (ap (λ f. text_of.closed c.args.all f c.in-Ok.behind.now) (sym (and_of_items c.in-Ok.members))
    ∙ and_read one c.args.all c.args.text.now c.in-Some.inside.now (filters_of c.in-Ok.members.items) c.in-Ok.behind.now there c.in-Ok.ensures.read)
    c.closed.ensures.read

pub inside_from-returns-in-Ok-members_from-clause-read : goal.inside_from-returns-in-Ok-members_from-clause-read
inside_from-returns-in-Ok-members_from-clause-read t c =
    let inside = c.in-Some-strip_prefix.inside in
    let read = c.in-Ok-members_from in
    let there = strip_prefix_char 124 c.args.text.now (Some inside) c.in-Some-strip_prefix.ensures.cases (lit< tt) in
    let one = text_of.filter_read c.args.nesting c.args.all in
    subst (λ read. ReadsFilter (λ p. (filter_view p.0, p.1.now)) c.closed-in-Ok-members_from.result read)
    (ap (λ f. text_of.closed c.args.all f read.behind.now) (sym (or_of_items read.members))
    ∙ or_read one c.args.all c.args.text.now inside.now (filters_of read.members.items) read.behind.now there read.ensures.read)
    c.closed-in-Ok-members_from.ensures.read

pub inside_from-returns-in_default-strip_prefix-2-clause-read : goal.inside_from-returns-in_default-strip_prefix-2-clause-read
unfolding encode
inside_from-returns-in_default-strip_prefix-2-clause-read t c =
    subst (λ read. ReadsFilter (λ p. (filter_view p.0, p.1.now)) c.item_from.result read)
    (unsigned (text_of.filter_read c.args.nesting c.args.all) c.args.all c.args.text.now c.in_default.ensures.cases c.in_default-strip_prefix.ensures.cases c.in_default-strip_prefix-2.ensures.cases)
    c.item_from.ensures.read

pub members_from-members-preserved : goal.members_from-members-preserved
members_from-members-preserved t c =
    let starts = (starts_char 40 c.members.rest.now c.starts_with.result c.starts_with.ensures.cases (lit< tt) (lit< tt)).0 c.members-test.true in
    record {
      text = search rules;
      left = omega (arith, ap length c.in_ok-push-in-Ok.ensures.items, length-append c.members.members.items (c.in-Ok.member ∷ []), c.in-Ok.ensures.behind, c.members.invariant.left);
      read =
          member_read (text_of.filter_read c.args.nesting c.args.all) (length c.args.text.now) c.members.members.items c.push.new.self.items c.in-Ok.member c.members.rest.now c.in-Ok.behind.now
          (text_of.members_read (text_of.filter_read c.args.nesting c.args.all) (length c.args.text.now) c.args.text.now)
          c.in_ok-push-in-Ok.ensures.items c.members.invariant.left starts c.in-Ok.ensures.read c.members.invariant.read;
    }

pub members_from-returns-clause-read : goal.members_from-returns-clause-read
members_from-returns-clause-read t c =
    let starts = (starts_char 40 c.members.rest.now c.starts_with.result c.starts_with.ensures.cases (lit< tt) (lit< tt)).1 in
    members_ended (text_of.filter_read c.args.nesting c.args.all) (length c.args.text.now - length c.members.members.items) c.members.members.items c.members.rest.now
    (text_of.members_read (text_of.filter_read c.args.nesting c.args.all) (length c.args.text.now) c.args.text.now)
    (λ e. let h = starts e in let no = c.members-test.false in absurd (cc))
    c.members.invariant.read
