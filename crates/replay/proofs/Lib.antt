-- What the proofs of several functions use.
mod ClassEnding
mod ClassMeeting
mod Comparing
mod Meeting
mod ReportMeeting
