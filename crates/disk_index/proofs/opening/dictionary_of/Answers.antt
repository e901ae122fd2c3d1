use Rattle.disk_index.proofs.KeptLemmas.{read-few, read-places, read-terms}
use Rattle.disk_index.proofs.opening.dictionary_of.Goals as goal

pub returns-clause-terms : goal.returns-clause-terms
returns-clause-terms g c = read-terms c.args.header.now _ c.read_dictionary.result c.read_dictionary.ensures.found

pub returns-clause-places : goal.returns-clause-places
returns-clause-places g c = read-places c.args.header.now _ c.read_dictionary.result c.requires.file c.read_dictionary.ensures.found

pub returns-clause-few : goal.returns-clause-few
returns-clause-few g c = read-few c.args.header.now _ c.read_dictionary.result c.requires.terms c.read_dictionary.ensures.found
