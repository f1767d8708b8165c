-- In these two phases the byte decides, whatever its class.
use Rattle.opb_classes.specs.Bytes.{class_of}
use Rattle.opb_bytes.proofs.step.Goals as goal

pub returns-in-AfterReturn : goal.returns-in-AfterReturn
returns-in-AfterReturn c = cc (c.after_return.ensures (class_of c.args.b))

pub returns-in-Comment : goal.returns-in-Comment
returns-in-Comment c = cc (c.comment.ensures (class_of c.args.b))
