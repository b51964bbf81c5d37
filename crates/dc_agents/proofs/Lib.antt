mod BookingRows
