use Rattle.shape_strides.proofs.ContiguityLaws.{first_address-is}
use Rattle.shape_strides.proofs.layout.Layout.first_address.Goals as goal

pub returns : goal.returns
returns c = first_address-is c.args.self.now
