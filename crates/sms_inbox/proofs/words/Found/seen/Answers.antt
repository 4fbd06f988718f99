use Rattle.std.proofs.Common.{arith, rules}
use Rattle.std.specs.Prelude.{codes}
use Rattle.std.specs.Option.{option_copied}
use Rattle.sms_inbox.proofs.Splits.{no_value}
use Rattle.sms_inbox.proofs.words.Found.seen.Goals as goal

pub returns-in-105 : goal.returns-in-105
returns-in-105 c = record {
  before = c.first_letter.ensures 116 (codes "ext:") (search arith);
  id = search rules;
  stat = no_value (codes "stat:") (option_copied c.args.self.stat) c.args.word.now (c.first_letter.ensures 115 (codes "tat:") (search arith));
  err = no_value (codes "err:") (option_copied c.args.self.err) c.args.word.now (c.first_letter.ensures 101 (codes "rr:") (search arith));
}

pub returns-in-115 : goal.returns-in-115
returns-in-115 c = record {
  before = c.first_letter.ensures 116 (codes "ext:") (search arith);
  id = no_value (codes "id:") (option_copied c.args.self.id) c.args.word.now (c.first_letter.ensures 105 (codes "d:") (search arith));
  stat = search rules;
  err = no_value (codes "err:") (option_copied c.args.self.err) c.args.word.now (c.first_letter.ensures 101 (codes "rr:") (search arith));
}

pub returns-in-101 : goal.returns-in-101
returns-in-101 c = record {
  before = c.first_letter.ensures 116 (codes "ext:") (search arith);
  id = no_value (codes "id:") (option_copied c.args.self.id) c.args.word.now (c.first_letter.ensures 105 (codes "d:") (search arith));
  stat = no_value (codes "stat:") (option_copied c.args.self.stat) c.args.word.now (c.first_letter.ensures 115 (codes "tat:") (search arith));
  err = search rules;
}

pub returns-else-begins : goal.returns-else-begins
returns-else-begins c = record {
  before = search rules;
  id = no_value (codes "id:") (option_copied c.args.self.id) c.args.word.now (c.first_letter.ensures 105 (codes "d:") (search arith));
  stat = no_value (codes "stat:") (option_copied c.args.self.stat) c.args.word.now (c.first_letter.ensures 115 (codes "tat:") (search arith));
  err = no_value (codes "err:") (option_copied c.args.self.err) c.args.word.now (c.first_letter.ensures 101 (codes "rr:") (search arith));
}

pub returns-in_default : goal.returns-in_default
returns-in_default c = record {
  before = c.first_letter.ensures 116 (codes "ext:") (search arith);
  id = no_value (codes "id:") (option_copied c.args.self.id) c.args.word.now (c.first_letter.ensures 105 (codes "d:") (search arith));
  stat = no_value (codes "stat:") (option_copied c.args.self.stat) c.args.word.now (c.first_letter.ensures 115 (codes "tat:") (search arith));
  err = no_value (codes "err:") (option_copied c.args.self.err) c.args.word.now (c.first_letter.ensures 101 (codes "rr:") (search arith));
}
