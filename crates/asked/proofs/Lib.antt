-- What the proofs of several functions use.
mod Laws
mod SizeMeeting
