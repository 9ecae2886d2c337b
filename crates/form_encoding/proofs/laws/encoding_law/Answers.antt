use Rattle.std.proofs.Common.{refl}
use Rattle.form_encoding.proofs.Keeping.{encoded_is}
use Rattle.form_encoding.proofs.Products.{products_of}
use Rattle.form_encoding.proofs.laws.encoding_law.Goals as goal

pub returns : goal.returns
returns c = λ w f plus at e below l. encoded_is w f at _ plus e _ ⊥ (record { long = refl; below = below; is = refl }) (products_of 0 f l)
