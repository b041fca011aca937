-- The numbers of the three functions, computed. Assumes nothing.
use lib.Dec.{T}
use Rattle.model.proofs.Definitions.{definitions}
use Rattle.tlp.specs.Decoded as Decoded
use Rattle.capi_query.specs.Lengths as Lengths
use Rattle.capi_query.specs.Fields as Fields
use Rattle.capi_query.specs.Interface as Interface

pub interface : T Interface.interface
unfolding
    definitions Decoded.as_message Decoded.as_wire Decoded.decoded_wire Decoded.decoded Decoded.first_length
    Lengths.lengths_of Lengths.config_lengths Lengths.image_refusal Lengths.image_lengths
    Fields.message_fields Fields.wire_fields Fields.fields_of Fields.first_fields
interface = tt
