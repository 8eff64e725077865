use Rattle.hc_grammar.proofs.Faults.Texts.{one_thing}
use Rattle.hc_grammar.proofs.laws.a_text_is_one_thing.Goals as goal

pub returns : goal.returns
returns c =
    one_thing c.each_text_has_tokens_or_a_fault.ensures c.a_text_has_one_list_of_tokens.ensures c.a_faulty_text_has_no_tokens.ensures c.a_text_has_one_least_fault.ensures
