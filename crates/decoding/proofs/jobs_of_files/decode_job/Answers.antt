use Rattle.job_files.specs.declared.parts.Side.TheVariants.{Product, ExchangedProduct}
use Rattle.decoding.proofs.Sides.{on_same}
use Rattle.decoding.proofs.jobs_of_files.decode_job.Goals as goal

pub returns-in-Product : goal.returns-in-Product
returns-in-Product c =
    on_same c.decode.result c.args.out.now c.decode.new.out c.args.job.syndrome.bytes.now c.args.job.erasure.bytes.now Product c.args.job.side c.of-code.result.graph c.args.job.graph
    c.in-Product.is c.of-code.ensures.value c.decode.ensures.value

pub returns-in-ExchangedProduct : goal.returns-in-ExchangedProduct
returns-in-ExchangedProduct c =
    on_same c.decode-in-ExchangedProduct.result c.args.out.now c.decode-in-ExchangedProduct.new.out c.args.job.syndrome.bytes.now c.args.job.erasure.bytes.now ExchangedProduct c.args.job.side c.of-code.result.graph c.args.job.graph
    c.in-ExchangedProduct.is c.of-code.ensures.value c.decode-in-ExchangedProduct.ensures.value
