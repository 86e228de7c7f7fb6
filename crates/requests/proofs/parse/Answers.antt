use Rattle.requests.proofs.Bytes.{cut, no_choice, whole_head}
use Rattle.requests.proofs.Laws.{laws}
use Rattle.requests.proofs.Examples.{examples}
use Rattle.requests.proofs.parse.Goals as goal

pub returns-then-s-lt13 : goal.returns-then-s-lt13
returns-then-s-lt13 c = record {
  value = cut _ c.if-s-lt13.true;
  laws = laws;
  examples = examples;
}

pub returns-then-s-ne1 : goal.returns-then-s-ne1
returns-then-s-ne1 c = record {
  value = no_choice _ c.if-s-lt13.false c.if-s-ne1.true;
  laws = laws;
  examples = examples;
}

pub returns : goal.returns
returns c =
    record {
      value = rw (c.by_tag.ensures, c.data_in-value.ensures, c.descriptor_in-about.ensures)
          (whole_head _ c.if-s-lt13.false c.if-s-ne1.false);
      laws = laws;
      examples = examples;
    }
