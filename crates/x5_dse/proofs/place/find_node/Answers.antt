-- The name is there exactly where the way to it has all its RDNs.
use Rattle.std.proofs.Common.{◌≡◌, ◌≢◌, ◌<◌, length, sym, ap, ◌∙◌, arith}
use Rattle.std.proofs.lemmas.List.{length-map}
use Rattle.std.specs.Option.{option_map}
use Rattle.x5_model.specs.Values.{key_of, key_of_rdn}
use Rattle.x5_dse.specs.Linked.{id_of}
use Rattle.x5_dse.specs.Inside.{IsDown}
use Rattle.x5_dse.proofs.Named.{found, none_found}
use Rattle.x5_dse.proofs.Ways.{outside, not_there, reached}
use Rattle.x5_dse.proofs.place.find_node.Goals as goal

pub returns-in-None : goal.returns-in-None
returns-in-None c = sym (ap (option_map id_of) (none_found c.args.prefix.now c.args.slots.now c.args.order.now c.requires (key_of c.args.name.now) (outside c.args.prefix.now c.args.slots.now c.args.order.now c.requires (key_of c.args.name.now) c.in-None.ensures.down)))

pub returns-then-way-len : goal.returns-then-way-len
returns-then-way-len c =
    let down : IsDown c.args.prefix.now c.args.slots.now c.args.order.now (key_of c.args.name.now) c.in-Some.way.node c.in-Some.way.count = c.in-Some.ensures.down in
    let all : c.in-Some.way.count ≡ length (key_of c.args.name.now) = c.if-way-len.true ∙ c.len.ensures ∙ sym (length-map c.args.name.now key_of_rdn) in
    sym (ap (option_map id_of) (found c.args.prefix.now c.args.slots.now c.args.order.now c.requires c.in-Some.way.node (key_of c.args.name.now) down.used
    (reached c.args.prefix.now c.args.slots.now c.args.order.now c.requires (key_of c.args.name.now) c.in-Some.way.node c.in-Some.way.count down all)))

pub returns-else-way-len : goal.returns-else-way-len
returns-else-way-len c =
    let down : IsDown c.args.prefix.now c.args.slots.now c.args.order.now (key_of c.args.name.now) c.in-Some.way.node c.in-Some.way.count = c.in-Some.ensures.down in
    let within = down.within in
    let other : c.in-Some.way.count ≢ length (key_of c.args.name.now) = λ e. c.if-way-len.false (e ∙ length-map c.args.name.now key_of_rdn ∙ sym c.len.ensures) in
    let less : c.in-Some.way.count < length (key_of c.args.name.now) = omega arith in
    sym (ap (option_map id_of) (none_found c.args.prefix.now c.args.slots.now c.args.order.now c.requires (key_of c.args.name.now)
    (not_there c.args.prefix.now c.args.slots.now c.args.order.now c.requires (key_of c.args.name.now) c.in-Some.way.node c.in-Some.way.count down less)))
