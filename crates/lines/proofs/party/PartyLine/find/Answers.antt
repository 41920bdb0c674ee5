use Rattle.std.proofs.Common.{ap, ◌∙◌, rules, tests}
use Rattle.std.proofs.lemmas.Iterator.Adapters.{option_map_id}
use Rattle.std.proofs.lemmas.Iterator.Search.{position_from_yields_List}
use Rattle.lines.specs.Logs.{goes, searched}
use Rattle.lines.proofs.Logs.{searches}
use Rattle.lines.proofs.Store.{shown}
use Rattle.lines.proofs.party.PartyLine.find.Goals as goal

pub returns : goal.returns
returns c =
    let a = c.args.pair.sender in
    let b = c.args.pair.receiver in
    let found = position_from_yields_List (goes a b) _ _ _ c.position.ensures.ran (shown c.args.self.now.messages.items cc) (λ x r q k. search (rules, tests)) in
    searches (λ i. i) a b _ _ c.in_ok-check.ensures c.ok_or.ensures.value ∙ ap (searched a b) (option_map_id _ ∙ found)
